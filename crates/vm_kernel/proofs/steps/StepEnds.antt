-- At the end of a step nobody waits in vain, and nothing is left behind.
use Rattle.vm_kernel.proofs.Common.{Access, Event, HasQueue, HasWaits, Header, HostIsFull, Ids, IsPagerTold, List}
use Rattle.vm_kernel.proofs.Common.{Matches, None, NoneInVain, On, Option, Parts, PromptAt, QueueIsServed, Reason, Rests}
use Rattle.vm_legal.specs.Prompt.{AtPlace, ForPush}
use Rattle.vm_kernel.proofs.Common.{Some, Waiting, Waits, WaitsForPager, Want, [], access_in, ap, copies_to}
use Rattle.vm_kernel.proofs.Common.{entries_in, entry, false, inl, inr, is_again, is_frame, is_on, is_store}
use Rattle.vm_kernel.proofs.Common.{none_again, none_queued}
use Rattle.vm_kernel.proofs.Common.{refl, subst, sym, true, waiting, waiting_in, ℕ, ◌∙◌, ◌≡◌}
use Rattle.vm_kernel.proofs.Common.{◌⊎◌}
use Rattle.vm_kernel.proofs.space.NothingLeft.{regions_used, swept, whole_of}
use Rattle.vm_kernel.proofs.space.ObjectEnds.{used_there}
use Rattle.std.proofs.Common.{is_some}
use Rattle.vm_state.proofs.Locks.{awaits_word}
use Rattle.vm_state.proofs.Shown.{awaits_ready}
use Rattle.vm_supply.specs.declared.woken.Woken.TheVariants as woken
use Rattle.vm_waits.specs.declared.waiting.On.TheVariants as on
use Rattle.vm_kernel.proofs.abroad.OwnHost.{own_host}
use Rattle.vm_kernel.proofs.memory.WalksShown.{shown_at, top_met, waiting_place}
use Rattle.vm_kernel.proofs.lists.PagesSpared.{here_waits}
use Rattle.vm_legal.specs.Merges.{IsThin}
use Rattle.vm_legal.specs.Prompt.{EachLeads}
use Rattle.vm_model.specs.Regions.{next_object, next_region}
use Rattle.vm_state.proofs.Pairs.{KnowsPairs, thin_told}
use Rattle.vm_state.specs.Counts.{marks_of}
use Rattle.vm_state.proofs.Filling.{AgreesNext, copies_next}
use Rattle.vm_model.specs.Waiting.{next_page}
use Rattle.vm_kernel.proofs.Common.{AllReferred, UsesAll}
use Rattle.vm_kernel.proofs.memory.PagesPushed.{push_here}
use Rattle.vm_state.proofs.Locks.{storing_is}

-- the row of an access that waits
pub record HasRow (size : ℕ) (rows : List Waiting) (task : ℕ) (access : Access) : Type 0 where
  pub row : Waiting
  pub found : entry rows task ≡ Some row
  pub is : access ≡ access_in size (copies_to row.destination) row.want

pub has_row : (header : Header) (h : ℕ) (k : Parts) (past : List Event) (task : ℕ) (access : Access) → HasWaits header h k woken.Nobody past
    → is_some (entries_in task k.maps) ≡ true → waiting task past ≡ Some access → HasRow k.maps.size k.waits.rows task access
has_row header h k past task access has here waits = go (entry k.waits.rows task) refl
  where
    go : (x : Option Waiting) → entry k.waits.rows task ≡ x → HasRow k.maps.size k.waits.rows task access
    go None none = absurd (let bad : None ≡ Some access = sym (has.is task here ∙ ap (waiting_in k.maps.size) none) ∙ waits in cc)
    go (Some row) found =
        let same : Some access ≡ Some (access_in k.maps.size (copies_to row.destination) row.want) = sym waits
        ∙ (has.is task here ∙ ap (waiting_in k.maps.size) found) in
        record { row = row; found = found; is = cc }

-- a task that waits on the host is in its maps
pub at_home : (header : Header) (h : ℕ) (k : Parts) (ids : Ids) (past : List Event) (task : ℕ) (access : Access) → Matches header h k ids [] past
    → (waits : Waits header task access past) → waits.at.host ≡ h → is_some (entries_in task k.maps) ≡ true
at_home header h k ids past task access m waits home = sym (m.core.spaces.tasks.hosts task) ∙ (ap (is_on h) (waits.at.lives ∙ ap Some home) ∙ own_host h)

-- whoever waits on the host has a page left, and an entry that leads to it
each_leads : (header : Header) (h : ℕ) (k : Parts) (ids : Ids) (past : List Event) → Rests header h k ids past → EachLeads header h past
each_leads header h k ids past rests task access waits lives =
    let row = has_row header h k past task access rests.waits (sym (rests.matches.core.spaces.tasks.hosts task) ∙ lives) waits in
    subst (λ (z : Access). Waits header task z past) (sym row.is) (here_waits header h k ids past task row.row rests.matches rests.waits rests.used.copies
    row.found)

-- what an access waits for that isn't to be run again
waits_for : (header : Header) (h : ℕ) (k : Parts) (ids : Ids) (past : List Event) (task to : ℕ) (what : Want) (why : On) → AgreesNext what (next_page task past)
    → Matches header h k ids [] past → UsesAll header k past → AllReferred k.chains k.memory.objects k.memory.resident
    → Reason k.maps k.chains k.copies k.memory.resident k.memory.objects task what why → is_again why ≡ false
    → (is_frame why ≡ true → HostIsFull header h past)
    → (waits : Waits header task (access_in k.maps.size to what) past) → waits.at.host ≡ h → WaitsForPager header h task (access_in k.maps.size to what) past
    ⊎ HostIsFull header h past
waits_for header h k ids past task to what on.Again agrees m used referred reason fresh full waits home = absurd (let bad : true ≡ false = fresh in cc)
waits_for header h k ids past task to what (on.Ready object) agrees m used referred reason fresh full waits home =
    let told : IsPagerTold k.memory.objects reason.0.object.0 = subst (λ z. IsPagerTold k.memory.objects z.0) (sym reason.2) reason.3 in
    inl (record {
      waits = waits;
      on_host = home;
      what = AtPlace reason.0.object.0 reason.0.page.0
          (waiting_place m to agrees reason.1 (at_home header h k ids past task (access_in k.maps.size to what) m waits home) waits)
          (awaits_ready (shown_at m) reason.0.object.0 told.row told.found told.sent (is_store (access_in k.maps.size to what)) reason.0.page.0);
    })
waits_for header h k ids past task to what (on.Page key) agrees m used referred reason fresh full waits home =
    inl (record {
      waits = waits;
      on_host = home;
      what = AtPlace key.object.0 key.page.0
          (waiting_place m to agrees reason.0 (at_home header h k ids past task (access_in k.maps.size to what) m waits home) waits)
          (awaits_word (shown_at m) k.maps.size to key.object.0 key.page.0 what reason.1);
    })
waits_for header h k ids past task to what (on.Push key) agrees m used referred reason fresh full waits home =
    let told = push_here m used referred task what key reason in
    inl (record {
      waits = waits;
      on_host = home;
      what = ForPush reason.top.object.0 reason.top.page.0 key.object.0 (storing_is k.maps.size to what ∙ reason.stores)
          (top_met to m agrees reason.at (at_home header h k ids past task (access_in k.maps.size to what) m waits home) waits) told.0 told.1;
    })
waits_for header h k ids past task to what on.Frame agrees m used referred reason fresh full waits home = inr (full refl)

-- an access that wants a frame waits while the queue can't go on
queue_full : (header : Header) (h : ℕ) (k : Parts) (past : List Event) (task : ℕ) (w : Waiting) → QueueIsServed header h k past
    → entry k.waits.rows task ≡ Some w → is_frame w.on ≡ true → HostIsFull header h past
queue_full header h k past task w (inl empty) found queues =
    absurd (let none = none_queued k.waits.rows task w empty found in let bad : true ≡ false = sym queues ∙ none in cc)
queue_full header h k past task w (inr full) found queues = full

none_in_vain : (header : Header) (h : ℕ) (k : Parts) (ids : Ids) (past : List Event) → Rests header h k ids past → QueueIsServed header h k past
    → NoneInVain header h past
none_in_vain header h k ids past rests served task access waits home =
    let row = has_row header h k past task access rests.waits (at_home header h k ids past task access rests.matches waits home) waits.waits in
    let w = row.row in
    subst (λ (z : Access). (it : Waits header task z past) → it.at.host ≡ h → WaitsForPager header h task z past ⊎ HostIsFull header h past) (sym row.is)
    (waits_for header h k ids past task (copies_to w.destination) w.want w.on (copies_next rests.used.copies task w row.found) rests.matches
    rests.used rests.referred (rests.waits.reasons task w row.found refl) (none_again k.waits.rows task w rests.idle row.found)
    (queue_full header h k past task w served row.found))
    waits home

-- whoever stands in the frame queue, no frame is free then
pub queue_of : (header : Header) (h : ℕ) (k : Parts) (past : List Event) → QueueIsServed header h k past → HasQueue header h k past
queue_of header h k past (inl empty) = inl empty
queue_of header h k past (inr full) = inr full.none

-- no object can be merged, so there is no pair
no_pair : (header : Header) (h : ℕ) (k : Parts) (ids : Ids) (past : List Event) → Rests header h k ids past → IsThin header h past
no_pair header h k ids past rests upper lower pair =
    let m = rests.matches in
    let knows : KnowsPairs header h k.chains k.copies k.memory.objects ids (next_region header past) (next_object header past) (marks_of header past)
    past = record {
      regions = m.core.objects.regions;
      kinds = m.core.objects.kinds;
      homes = m.core.spaces.homes.1;
      last = m.core.controls.last;
      shadows = rests.referred.shadows;
      all = λ r row least found. regions_used header h k ids past (whole_of rests) r row least found;
      there = λ r least used. used_there header h k ids [] past r m rests.used.copies least used;
      copies = λ o row found some. m.core.copied.known.are o (record { row = row; known = found; some = some });
    } in
    thin_told knows rests.thin upper lower pair

pub prompt_of : (header : Header) (h : ℕ) (k : Parts) (ids : Ids) (past : List Event) → Rests header h k ids past → QueueIsServed header h k past
    → PromptAt header h past
prompt_of header h k ids past rests served =
    record {
      leads = each_leads header h k ids past rests;
      waits = none_in_vain header h k ids past rests served;
      swept = swept header h k ids past (whole_of rests);
      thin = no_pair header h k ids past rests;
    }
