-- At the end of a step whoever waits beside its page wants a frame: a page that is here lies neither above the place where an access waits, nor there, nor
-- behind it.
use Rattle.vm_kernel.proofs.Common.{Access, Event, HasQueue, Header, Ids, IsPagerTold, List, Matches, On, PageKey, Parts, Reason, Rests, Some, Waiting, Waits}
use Rattle.vm_kernel.proofs.Common.{Want, [], access_in, ap, backing_of, copies_to, entries_in, entry, false, inl, inr}
use Rattle.vm_kernel.proofs.Common.{is_again, is_frame, is_some, is_store, named, next_page, none_again, none_queued, page_of, page_on, refl}
use Rattle.vm_kernel.proofs.Common.{region_of, sight, subst, suc, sym, true, zero, ℕ, ◌&&◌, ◌∙◌, ◌≡◌}
use Rattle.std.specs.Prelude.{not}
use Rattle.vm_kernel.proofs.steps.StepEnds.{at_home, has_row}
use Rattle.vm_kernel.proofs.memory.WalksShown.{shown_at, waiting_place}
use Rattle.vm_legal.specs.Accesses.{Comes, names}
use Rattle.vm_legal.specs.Frames.{frames_free}
use Rattle.vm_legal.specs.InTurn.{NoneSleepsOn}
use Rattle.vm_legal.specs.Returned.{OnlyReturned}
use Rattle.vm_legal.specs.Walks.{IsTop, Passes, Walks}
use Rattle.vm_model.specs.Local.{is_known_absent}
use Rattle.vm_parts.specs.declared.parts.HostParts.{HostParts}
use Rattle.vm_shadow.specs.Chains.{ChainTable}
use Rattle.vm_state.proofs.Filling.{AgreesNext, copies_next}
use Rattle.vm_state.proofs.Locks.{named_at}
use Rattle.vm_state.proofs.Shown.{IsShown, asks_row, shows_row, told_live}
use Rattle.vm_state.proofs.Walks.{descends_of}
use Rattle.vm_state.specs.Pagers.{has_pager, is_ready_state}
use Rattle.vm_state.specs.Passed.{IsPlaceBehind, IsUnmet, LeadsOver, Passed, StaysAway}
use Rattle.vm_state.specs.Places.{place_of}
use Rattle.vm_waits.specs.declared.waiting.On.TheVariants as on
use Rattle.vm_fault.specs.Walks.{IsAt}
use Rattle.vm_kernel.proofs.Common.{Bool, HasPlace, IsPlaceOf, is_ready, live_control, ready_in, ◌<◌}
use Rattle.vm_kernel.proofs.memory.PagesPushed.{push_here}
use Rattle.vm_kernel.proofs.memory.WalksShown.{top_met}
use Rattle.vm_legal.proofs.Files.{file_named}
use Rattle.vm_legal.specs.Pushes.{OwesPush, is_pushed}
use Rattle.vm_state.proofs.Locks.{storing_is}
use Rattle.vm_state.specs.Waiters.{WaitsToPush}
use Rattle.vm_model.specs.Regions.{is_copy}

-- how a place that a walk comes to stands to another further down the chain: it is above that, or both are one, or the walk passes over the other
data Meets (header : Header) (h : ℕ) (past : List Event) (stays : PageKey → Type 0) (to : PageKey) (object page : ℕ) : Type 0 where
  IsOver : (at : PageKey) → stays at → at.object.0 ≡ object → at.page.0 ≡ page → Meets header h past stays to object page
  IsThere : to.object.0 ≡ object → to.page.0 ≡ page → Meets header h past stays to object page
  IsBehind : Passes (sight header h to.object.0 to.page.0 past) → Meets header h past stays to object page

walks_meet : {header : Header} {h : ℕ} {parts : HostParts} {chains : ChainTable} {past : List Event} (stays : PageKey → Type 0)
    → IsShown header h parts chains past → (n m : ℕ) (from to : PageKey) (object page : ℕ) → LeadsOver stays chains n from to
    → Walks (λ k q. sight header h k q past) (λ k. backing_of header k past) m from.object.0 from.page.0 object page
    → Meets header h past stays to object page
walks_meet stays s zero zero from to object page leads walks =
    IsThere (ap (λ (z : PageKey). z.object.0) (sym leads) ∙ walks.0) (ap (λ (z : PageKey). z.page.0) (sym leads) ∙ walks.1)
walks_meet {header = header} {h = h} {past = past} stays s zero (suc m) from to object page leads walks =
    IsBehind (subst (λ (z : PageKey). Passes (sight header h z.object.0 z.page.0 past)) leads walks.0)
walks_meet stays s (suc n) zero from to object page leads walks = IsOver from leads.0 walks.0 walks.1
walks_meet {header = header} {h = h} {past = past} stays s (suc n) (suc m) from to object page leads walks =
    let next = leads.1.0 in
    let down = descends_of s from next leads.1.1 in
    walks_meet stays s n m next to object page leads.1.2
    (subst (λ (z : ℕ). Walks (λ k q. sight header h k q past) (λ k. backing_of header k past) m z next.page.0 object page) (sym down.object)
    (subst (λ (z : ℕ). Walks (λ k q. sight header h k q past) (λ k. backing_of header k past) m (backing_of header from.object.0 past).under z object page)
    (sym down.page_is) walks.2))

-- where the walk of an access comes to, from the top place that its kernel has
meets_place : {header : Header} {h : ℕ} {k : Parts} {ids : Ids} {past : List Event} {task : ℕ} {what : Want} {key : PageKey} (stays : PageKey → Type 0)
    (to object page : ℕ)
    → Matches header h k ids [] past → AgreesNext what (next_page task past) → IsPlaceBehind stays k.maps k.chains task what key
    → is_some (entries_in task k.maps) ≡ true → (waits : Waits header task (access_in k.maps.size to what) past)
    → Comes header h waits.at.entry.region.0 (page_of header task (access_in k.maps.size to what) past waits.at.entry) object page past
    → Meets header h past stays key object page
meets_place {header = header} {h = h} {past = past} {key = key} stays to object page m agrees place here waits comes =
    let top = top_met to m agrees place.at here waits in
    walks_meet stays (shown_at m) place.steps comes.steps place.top key object page place.leads
    (subst (λ (z : ℕ). Walks (λ k2 q. sight header h k2 q past) (λ k2. backing_of header k2 past) comes.steps z place.top.page.0 object page)
    (sym comes.is_top.object ∙ top.object)
    (subst (λ (z : ℕ). Walks (λ k2 q. sight header h k2 q past) (λ k2. backing_of header k2 past) comes.steps comes.top z object page)
    (sym comes.is_top.page ∙ top.page) comes.walks))

-- where the walk of an access comes to from its top place, which is a page of a file
meets_file : {header : Header} {h : ℕ} {k : Parts} {ids : Ids} {past : List Event} {task : ℕ} {what : Want} {top : PageKey} (to object page : ℕ)
    → Matches header h k ids [] past → AgreesNext what (next_page task past) → IsAt k.maps k.chains task what top → top.object.0 < named header
    → is_some (entries_in task k.maps) ≡ true → (waits : Waits header task (access_in k.maps.size to what) past)
    → Comes header h waits.at.entry.region.0 (page_of header task (access_in k.maps.size to what) past waits.at.entry) object page past
    → (top.object.0 ≡ object) × (top.page.0 ≡ page)
meets_file {header = header} {h = h} {k = k} {past = past} {task = task} {what = what} {top = top} to object page m agrees at declared here waits comes =
    by comes.steps comes.walks
  where
    its : IsTop (region_of header waits.at.entry.region.0 past) (page_of header task (access_in k.maps.size to what) past waits.at.entry) top.object.0
        top.page.0
    its = top_met to m agrees at here waits

    by : (n : ℕ) → Walks (λ k2 q. sight header h k2 q past) (λ k2. backing_of header k2 past) n comes.top comes.top_page object page
        → (top.object.0 ≡ object) × (top.page.0 ≡ page)
    by zero walks = (sym its.object ∙ (comes.is_top.object ∙ walks.0), sym its.page ∙ (comes.is_top.page ∙ walks.1))
    by (suc n) walks =
        let bare = m.core.spaces.homes.1.bare top.object.0 declared in
        absurd (let bad : false ≡ true = sym bare ∙ (ap (λ (o : ℕ). (backing_of header o past).backed) (sym its.object ∙ comes.is_top.object) ∙ walks.1) in
        cc)

-- a store owes the page to no copy whose place is asked
abbrev pub OwesFree : Header → ℕ → Access → List Event → ℕ → ℕ → Type 0
OwesFree header h access past object page =
    is_store access ≡ true → (copy : ℕ) → OwesPush header h object page copy past → (page_on header h copy page past).asked ≡ false

-- so one whose walk comes there doesn't wait to push it
pub never_pushing : {header : Header} {h : ℕ} {k : Parts} {ids : Ids} {past : List Event} {task object page : ℕ} {w : Waiting} {key : PageKey}
    → Rests header h k ids past → entry k.waits.rows task ≡ Some w → WaitsToPush k.maps k.chains k.copies k.memory.resident task w.want key
    → (waits : Waits header task (access_in k.maps.size (copies_to w.destination) w.want) past)
    → Comes header h waits.at.entry.region.0 (page_of header task (access_in k.maps.size (copies_to w.destination) w.want) past waits.at.entry) object page past
    → OwesFree header h (access_in k.maps.size (copies_to w.destination) w.want) past object page → ⊥
never_pushing {header = header} {h = h} {k = k} {past = past} {task = task} {object = object} {page = page} {w = w} {key = key} rests found push waits comes
    free =
    let m = rests.matches in
    let to = copies_to w.destination in
    let here = ap is_some (rests.waits.allowed task w found).lives in
    let told = push_here m rests.used rests.referred task w.want key push in
    let there = meets_file to object page m (copies_next rests.used.copies task w found) push.at (file_named header push.top.object.0 told.0.file) here waits
    comes in
    let owes : OwesPush header h object page key.object.0 past = subst (λ (z : ℕ). OwesPush header h z page key.object.0 past) there.0
    (subst (λ (z : ℕ). OwesPush header h push.top.object.0 z key.object.0 past) there.1 told.0) in
    let asked : (page_on header h key.object.0 page past).asked ≡ true =
    subst (λ (z : ℕ). (page_on header h key.object.0 z past).asked ≡ true) there.1 told.1 in
    let bad : false ≡ true = sym (free (storing_is k.maps.size to w.want ∙ push.stores) key.object.0 owes) ∙ asked in
    cc

here_at : (header : Header) (h : ℕ) (past : List Event) (o p object page : ℕ) → o ≡ object → p ≡ page → (page_on header h object page past).here ≡ true
    → (page_on header h o p past).here ≡ true
here_at header h past o p object page same also here =
    subst (λ (z : ℕ). (page_on header h z p past).here ≡ true) (sym same) (subst (λ (z : ℕ). (page_on header h object z past).here ≡ true) (sym also) here)

-- an access that doesn't want a frame, and isn't to be run, comes to no page that lets it in
never_comes : (header : Header) (h : ℕ) (k : Parts) (ids : Ids) (past : List Event) (task to : ℕ) (what : Want) (why : On) → Matches header h k ids [] past
    → OnlyReturned header h past → Reason k.maps k.chains k.copies k.memory.resident k.memory.objects task what why → is_again why ≡ false
    → (is_frame why ≡ true → frames_free header h past ≡ 0) → (object page : ℕ) → (page_on header h object page past).here ≡ true
    → names (page_on header h object page past).lock (is_store (access_in k.maps.size to what)) ≡ false
    → ((key : PageKey) → IsPlaceBehind (StaysAway header h past) k.maps k.chains task what key → Meets header h past (StaysAway header h past) key object page)
    → ((key : PageKey) → WaitsToPush k.maps k.chains k.copies k.memory.resident task what key → ⊥)
    → ((at : PageKey) → IsPlaceOf k.maps k.chains task what at → IsPagerTold k.memory.objects at.object.0 → (IsUnmet header h past at).unpushed)
    → Passed (StaysAway header h past) (IsUnmet header h past) k.maps k.chains task what why → frames_free header h past ≡ 0
never_comes header h k ids past task to what on.Again m only reason fresh full object page here let_in meets pushes unpushed passed =
    absurd (let bad : true ≡ false = fresh in cc)
never_comes header h k ids past task to what on.Frame m only reason fresh full object page here let_in meets pushes unpushed passed = full refl
never_comes header h k ids past task to what (on.Ready other) m only reason fresh full object page here let_in meets pushes unpushed passed =
    let key = passed.0 in
    let told : IsPagerTold k.memory.objects key.object.0 = subst (λ z. IsPagerTold k.memory.objects z.0) (sym passed.2) reason.3 in
    let was = passed.3 (unpushed key passed.1 told) in
    let unmet = was.1 in
    elim (meets key was.0) [
      | IsOver at stays same also ↦ absurd (let bad : false ≡ true = sym (stays.1 only).away
          ∙ here_at header h past at.object.0 at.page.0 object page same also here in cc)
      | IsThere same also ↦ absurd (let bad : false ≡ true = sym unmet.away ∙ here_at header h past key.object.0 key.page.0 object page same also here in cc)
      | IsBehind passes ↦
          let live = told_live (shown_at m) key.object.0 told.row told.found (ap has_pager told.sent) in
          absurd (let bad : true ≡ false =
          sym (ap (λ z. is_some z && not (is_known_absent header (place_of key.object.0 key.page.0) (page_on header h key.object.0 key.page.0 past))) live
          ∙ ap not unmet.unknown) ∙ passes.without in cc)
    ]
never_comes header h k ids past task to what (on.Push key) m only reason fresh full object page here let_in meets pushes unpushed passed =
    absurd (pushes key reason)
never_comes header h k ids past task to what (on.Page key) m only reason fresh full object page here let_in meets pushes unpushed passed =
    elim (meets key passed) [
      | IsOver at stays same also ↦ absurd (let bad : false ≡ true = sym (stays.1 only).away
          ∙ here_at header h past at.object.0 at.page.0 object page same also here in cc)
      | IsThere same also ↦ elim reason.1 [
        | inl asked ↦
            let its = asks_row (shown_at m) key.object.0 key.page.0 asked.row asked.found asked.away in
            absurd (let bad : false ≡ true = sym its.away ∙ here_at header h past key.object.0 key.page.0 object page same also here in cc)
        | inr locked ↦
            let named_it = named_at (shown_at m) k.maps.size to key.object.0 key.page.0 what locked in
            let open_to : names (page_on header h key.object.0 key.page.0 past).lock (is_store (access_in k.maps.size to what)) ≡ false =
            subst (λ (z : ℕ). names (page_on header h z key.page.0 past).lock (is_store (access_in k.maps.size to what)) ≡ false) (sym same)
            (subst (λ (z : ℕ). names (page_on header h object z past).lock (is_store (access_in k.maps.size to what)) ≡ false) (sym also) let_in) in
            absurd (let bad : true ≡ false = sym named_it ∙ open_to in cc)
      ]
      | IsBehind passes ↦ elim reason.1 [
        | inl asked ↦ absurd (let bad : false ≡ true = sym passes.unasked
            ∙ (asks_row (shown_at m) key.object.0 key.page.0 asked.row asked.found asked.away).asked in cc)
        | inr locked ↦ absurd (let bad : false ≡ true = sym passes.away
            ∙ (shows_row (shown_at m) key.object.0 key.page.0 locked.row locked.found locked.here).here in cc)
      ]
    ]

queue_free : (header : Header) (h : ℕ) (k : Parts) (past : List Event) (task : ℕ) (w : Waiting) → HasQueue header h k past → entry k.waits.rows task ≡ Some w
    → is_frame w.on ≡ true → frames_free header h past ≡ 0
queue_free header h k past task w (inl empty) found queues =
    let none = none_queued k.waits.rows task w empty found in absurd (let bad : true ≡ false = sym queues ∙ none in cc)
queue_free header h k past task w (inr none) found queues = none

-- where something was copied up into the place of a copy object, that has no pager, or one that is ready
abbrev IsMetAt : Header → ℕ → ℕ → ℕ → List Event → Type 0
IsMetAt header h o p past =
    is_copy o past ≡ true → is_pushed h o p past ≡ true → (control : ℕ) → live_control h o past ≡ Some control → is_ready h o past ≡ true

-- so nothing was into that of an object whose pager isn't ready
unpushed_at : {header : Header} {h : ℕ} {k : Parts} {ids : Ids} {past : List Event} → Matches header h k ids [] past → (at : PageKey)
    → IsPagerTold k.memory.objects at.object.0 → IsMetAt header h at.object.0 at.page.0 past → (IsUnmet header h past at).unpushed
unpushed_at {header = header} {h = h} {k = k} {past = past} m at told met = by (is_copy at.object.0 past) (is_pushed h at.object.0 at.page.0 past) met
  where
    live : live_control h at.object.0 past ≡ Some told.row.control
    live = told_live (shown_at m) at.object.0 told.row told.found (ap has_pager told.sent)

    unready : is_ready h at.object.0 past ≡ false
    unready = m.core.controls.ready at.object.0 told.row.control live ∙ (ap ready_in told.found ∙ ap is_ready_state told.sent)

    by : (copy pushed : Bool) → (copy ≡ true → pushed ≡ true → (control : ℕ) → live_control h at.object.0 past ≡ Some control
        → is_ready h at.object.0 past ≡ true) → (copy && pushed) ≡ false
    by false pushed met2 = refl
    by true false met2 = refl
    by true true met2 = absurd (let bad : false ≡ true = sym unready ∙ met2 refl refl told.row.control live in cc)

-- whoever comes to its page while its kernel has served its queue waits for a frame, and none is free
pub none_sleeps : (header : Header) (h : ℕ) (k : Parts) (ids : Ids) (past : List Event) → Rests header h k ids past → HasQueue header h k past
    → OnlyReturned header h past → NoneSleepsOn header h past
none_sleeps header h k ids past rests queue only task sleeper =
    let here = at_home header h k ids past task sleeper.access rests.matches sleeper.waits sleeper.on_host in
    let row = has_row header h k past task sleeper.access rests.waits here sleeper.waits.waits in
    let w = row.row in
    let object = sleeper.object in
    let page = sleeper.page in
    let m = rests.matches in
    let agrees = copies_next rests.used.copies task w row.found in
    subst (λ (z : Access). (it : Waits header task z past) → Comes header h it.at.entry.region.0 (page_of header task z past it.at.entry) object page past
    → names (page_on header h object page past).lock (is_store z) ≡ false
    → OwesFree header h z past object page
    → ((other other_page : ℕ) → HasPlace header it.at.entry.region.0 (page_of header task z past it.at.entry) other other_page past
    → IsMetAt header h other other_page past) → frames_free header h past ≡ 0) (sym row.is)
    (λ it comes let_in free told.
    never_comes header h k ids past task (copies_to w.destination) w.want w.on m only (rests.waits.reasons task w row.found refl)
    (none_again k.waits.rows task w rests.idle row.found) (queue_free header h k past task w queue row.found) object page sleeper.here let_in
    (λ key place. meets_place (StaysAway header h past) (copies_to w.destination) object page m agrees place here it comes)
    (λ key push. never_pushing rests row.found push it comes free)
    (λ at place pager. unpushed_at m at pager (told at.object.0 at.page.0 (waiting_place m (copies_to w.destination) agrees place here it)))
    (rests.waits.passed task w row.found refl))
    sleeper.waits sleeper.comes sleeper.let_in sleeper.free sleeper.told
