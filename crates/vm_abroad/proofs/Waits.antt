-- Whoever waits on a host waits as before, and for the same, where the host's facts read the same.
use Rattle.std.proofs.Common.{◌≡◌, ℕ, zero, suc, ◌<◌, ◌≤◌, ◌==◌, ◌&&◌, Bool, true, false, not, List, Option, Some, ap, refl, sym, ◌∙◌, subst, arith, inl, inr}
use Rattle.std.proofs.lemmas.Bool.Decides.{nat_tests}
use Rattle.std.specs.Prelude.{is_some}
use Rattle.std.proofs.lemmas.Bool.{cases_lt}
use Rattle.vm_base.specs.declared.entry.Entry.{Entry}
use Rattle.vm_base.specs.Entries.{entry_at, page_at}
use Rattle.vm_model.specs.declared.event.Event.{Event}
use Rattle.vm_model.specs.declared.script.Header.{Header}
use Rattle.vm_model.specs.Controls.{live_control}
use Rattle.vm_model.specs.Local.{is_known_absent, is_on}
use Rattle.vm_model.specs.Named.{named}
use Rattle.vm_model.specs.Homes.{home_in, home_of}
use Rattle.vm_model.specs.Regions.{Backing, Region, backing_of, newest_copy, region_of}
use Rattle.vm_model.specs.Rows.{found_row}
use Rattle.vm_model.specs.Tasks.{entries_of, has_entry, host_of}
use Rattle.vm_model.specs.Waiting.{Access, address_of, is_store, next_page}
use Rattle.vm_legal.specs.Accesses.{Comes, Copies, Elsewhere, HasPageLeft, HasPlace, Nowhere, Pushes, Raises, Waits, WaitsUnlocked, WantsFrame, names, page_of}
use Rattle.vm_legal.specs.Frames.{frames_free}
use Rattle.vm_legal.specs.Homes.{is_open, is_used}
use Rattle.vm_legal.specs.Living.{lives_on}
use Rattle.vm_legal.proofs.Exhausted.{exhausted_still}
use Rattle.vm_legal.specs.Pushes.{OwesPush}
use Rattle.vm_legal.specs.Prompt.{AReady, AnAnswer, AnUnlock, AtPlace, Awaits, AwaitsPage, EachLeads, ForPush, HostIsFull, IsExhausted, IsSource, NoneInVain}
use Rattle.vm_legal.specs.Prompt.{WaitsForPager}
use Rattle.vm_legal.specs.Swept.{IsSwept, IsUnheld}
use Rattle.vm_legal.specs.Walks.{Below, IsTop, Reach, Sight, Sinks, Walks, page_on, sight}
use Rattle.vm_abroad.specs.Same.{SameFacts}
use Rattle.vm_abroad.specs.Sound.{IsMade, IsRegionOf, Knows, Sound}
use Rattle.vm_abroad.proofs.Chains.{below_is, leads_is, sinks_is, walks_is}
use Rattle.vm_abroad.proofs.Facts.{small_region}
use Rattle.vm_abroad.proofs.Home.{copy_temporary}
use Rattle.vm_abroad.proofs.Sounds.{use_of, used_of}

lives_at : (h task : ℕ) (past : List Event) (x : Option ℕ) (host : ℕ) → x ≡ Some host → host ≡ h → is_on h x ≡ true
lives_at h task past x host lives on = ap (is_on h) lives ∙ (let e : (host == h) ≡ true = grind (arith, nat_tests) in e)

-- the host on which it lives is the one
on_there : (h : ℕ) (x : Option ℕ) (host : ℕ) → is_on h x ≡ true → x ≡ Some host → host ≡ h
on_there h x host on is = let at : is_on h (Some host) ≡ true = ap (is_on h) (sym is) ∙ on in grind (arith, nat_tests)

module _ (header : Header) (h : ℕ) (old new : List Event) (sound : Sound header old) (knows : Knows header h old) (same : SameFacts header h old new) where
  -- places

  pub page_now : (o p : ℕ) → page_on header h o p new ≡ page_on header h o p old
  page_now o p = same.pages.local (record { object = o; page = p })

  sight_now : (o p : ℕ) → sight header h o p new ≡ sight header h o p old
  sight_now o p =
      ap (λ z. let seen : Sight = record {
        page = z;
        may_have = is_some (live_control h o new) && not
            (is_known_absent header (record { object = o; page = p }) z);
      } in seen) (page_now o p)
      ∙ ap (λ z. let seen : Sight = record {
        page = page_on header h o p old;
        may_have = is_some z && not (is_known_absent header (record { object = o; page = p }) (page_on header h o p old));
      } in seen) (same.pages.live o)

  pub region_now : (r : ℕ) → IsRegionOf header h r old → region_of header r new ≡ region_of header r old
  region_now r own = same.region r (small_region header h r old sound own) own

  top_now : (r page top top_page : ℕ) → IsRegionOf header h r old → IsTop (region_of header r old) page top top_page
      → IsTop (region_of header r new) page top top_page
  top_now r page top top_page own is = subst (λ (z : Region). IsTop z page top top_page) (sym (region_now r own)) is

  made_top : (r page top top_page : ℕ) → IsRegionOf header h r old → IsTop (region_of header r old) page top top_page → IsMade header h top old
  made_top r page top top_page own is = subst (λ (z : ℕ). IsMade header h z old) is.object (knows.chains r (small_region header h r old sound own) own)

  place_now : (r page object object_page : ℕ) → IsRegionOf header h r old → HasPlace header r page object object_page old
      → HasPlace header r page object object_page new
  place_now r page object object_page own is = record {
    top = is.top;
    top_page = is.top_page;
    steps = is.steps;
    is_top = top_now r page is.top is.top_page own is.is_top;
    leads = leads_is header h old new same.backing is.steps is.top is.top_page object object_page (made_top r page is.top is.top_page own is.is_top) is.leads;
  }

  walks_now : (r page top top_page n object object_page : ℕ) → IsRegionOf header h r old → IsTop (region_of header r old) page top top_page
      → Walks (λ k q. sight header h k q old) (λ k. backing_of header k old) n top top_page object object_page
      → Walks (λ k q. sight header h k q new) (λ k. backing_of header k new) n top top_page object object_page
  walks_now r page top top_page n object object_page own is_top walks =
      walks_is header h old new same.backing (λ k q. sight header h k q old) (λ k q. sight header h k q new) sight_now n top top_page object object_page
      (made_top r page top top_page own is_top) walks

  sinks_now : (r page top top_page n : ℕ) → IsRegionOf header h r old → IsTop (region_of header r old) page top top_page
      → Sinks (λ k q. sight header h k q old) (λ k. backing_of header k old) n top top_page
      → Sinks (λ k q. sight header h k q new) (λ k. backing_of header k new) n top top_page
  sinks_now r page top top_page n own is_top sinks =
      sinks_is header h old new same.backing (λ k q. sight header h k q old) (λ k q. sight header h k q new) sight_now n top top_page
      (made_top r page top top_page own is_top) sinks

  comes_now : (r page object object_page : ℕ) → IsRegionOf header h r old → Comes header h r page object object_page old
      → Comes header h r page object object_page new
  comes_now r page object object_page own is = record {
    top = is.top;
    top_page = is.top_page;
    steps = is.steps;
    is_top = top_now r page is.top is.top_page own is.is_top;
    walks = walks_now r page is.top is.top_page is.steps object object_page own is.is_top is.walks;
  }

  -- what is reached

  pub reach_declared : (r n object : ℕ) → r < named header → named header ≤ object → Below (λ o. backing_of header o old) n r object → ⊥
  reach_declared r zero object declared temporary is = omega (arith, is, declared, temporary)
  reach_declared r (suc n) object declared temporary is = let bad : true ≡ false = sym is.0 ∙ sound.bare r declared in absurd (cc)

  below_now : (r n object : ℕ) → IsRegionOf header h r old → Below (λ o. backing_of header o old) n (region_of header r old).top object
      → Below (λ o. backing_of header o new) n (region_of header r new).top object
  below_now r n object own is =
      subst (λ (z : Region). Below (λ o. backing_of header o new) n z.top object) (sym (region_now r own))
      (below_is header h old new same.backing n (region_of header r old).top object (knows.chains r (small_region header h r old sound own) own) is)

  reach_shut : (object : ℕ) → named header ≤ object → (reach : Reach header h object old) → is_open reach.0 old ≡ false → Reach header h object new
  reach_shut object temporary reach shut = elim (cases_lt reach.0 (named header)) [
    | inl declared ↦ absurd (reach_declared reach.0 reach.1 object declared temporary
        (subst (λ (z : ℕ). Below (λ o. backing_of header o old) reach.1 z object) (sound.tops reach.0 declared) reach.3))
    | inr ours ↦
        let used : is_used header h reach.0 old ≡ true = used_of header h reach.0 old shut reach.2 in (
          reach.0,
          reach.1,
          use_of header h reach.0 new (same.used reach.0 ours ∙ used),
          below_now reach.0 reach.1 object (λ is. used) reach.3,
        )
  ]

  pub reach_now : ((r : ℕ) → is_open r old ≡ false) → (object : ℕ) → named header ≤ object → Reach header h object old → Reach header h object new
  reach_now shut object temporary reach = reach_shut object temporary reach (shut reach.0)

  -- accesses

  abbrev waits_now : (task : ℕ) (access : Access) (w : Waits header task access old) → w.at.host ≡ h → Waits header task access new
  waits_now task access w on =
      let it = same.task task (lives_at h task old _ w.at.host w.at.lives on) in
      record {
        waits = it.waiting ∙ w.waits;
        at = record {
          host = w.at.host;
          entry = w.at.entry;
          lives = it.host ∙ w.at.lives;
          found =
              ap (λ z. entry_at (address_of header.size z access) (entries_of header.size task new)) it.next
              ∙ (ap (entry_at (address_of header.size (next_page task old) access)) it.entries ∙ w.at.found);
        };
        left = subst (λ (z : ℕ). HasPageLeft header.size access z) (sym it.next) w.left;
      }

  abbrev waits_was : (task : ℕ) (access : Access) (w : Waits header task access new) → w.at.host ≡ h → Waits header task access old
  waits_was task access w on =
      let it = same.task task (sym (same.lives task) ∙ lives_at h task new _ w.at.host w.at.lives on) in
      record {
        waits = sym it.waiting ∙ w.waits;
        at = record {
          host = w.at.host;
          entry = w.at.entry;
          lives = sym it.host ∙ w.at.lives;
          found =
              ap (entry_at (address_of header.size (next_page task old) access)) (sym it.entries)
              ∙ (ap (λ z. entry_at (address_of header.size z access) (entries_of header.size task new)) (sym it.next) ∙ w.at.found);
        };
        left = subst (λ (z : ℕ). HasPageLeft header.size access z) it.next w.left;
      }

  pub leads_now : EachLeads header h old → EachLeads header h new
  leads_now leads task access waits lives =
      let here : lives_on h task old ≡ true = sym (same.lives task) ∙ lives in
      let w : Waits header task access old = leads task access (sym (same.task task here).waiting ∙ waits) here in
      waits_now task access w (on_there h (host_of task old) w.at.host here w.at.lives)

  own_region : (task : ℕ) (access : Access) (w : Waits header task access old) → w.at.host ≡ h → IsRegionOf header h w.at.entry.region.0 old
  own_region task access w on =
      (found_row (λ row. IsRegionOf header h row.region.0 old) (address_of header.size (next_page task old) access) (entries_of header.size task old) w.at.entry
      (knows.entries task (lives_at h task old _ w.at.host w.at.lives on)) w.at.found).is

  index_now : (task : ℕ) (access : Access) (w : Waits header task access old) → w.at.host ≡ h → (entry : Entry)
      → page_of header task access old entry ≡ page_of header task access new entry
  index_now task access w on entry =
      ap (λ z. page_at header.size (address_of header.size z access) entry) (sym (same.task task (lives_at h task old _ w.at.host w.at.lives on)).next)

  -- a copy of a file stands on it, so no region that was made just now leads to it
  copy_shut : (file copy : ℕ) → newest_copy file old ≡ Some copy → (reach : Reach header h copy old) → is_open reach.0 old ≡ false
  copy_shut file copy newest reach = by_test (is_open reach.0 old) refl
    where
      stands : (backing_of header copy old).backed ≡ true
      stands = ap (λ (z : Backing). z.backed) (sound.homes.copies file copy newest).stands

      nothing_under : (n top : ℕ) → (backing_of header top old).backed ≡ false → Below (λ k. backing_of header k old) n top copy → ⊥
      nothing_under zero top bare is = let bad : false ≡ true = sym bare ∙ (ap (λ z. (backing_of header z old).backed) is ∙ stands) in cc
      nothing_under (suc n) top bare is = let bad : false ≡ true = sym bare ∙ is.0 in cc

      by_test : (b : Bool) → is_open reach.0 old ≡ b → b ≡ false
      by_test false is = refl
      by_test true is = absurd (nothing_under reach.1 (region_of header reach.0 old).top (sound.opens reach.0 is) reach.3)

  -- so it is at home on the host, and so is its file
  copy_home : (file copy : ℕ) → newest_copy file old ≡ Some copy → Reach header h copy old → is_on h (home_of file old) ≡ true
  copy_home file copy newest reach =
      let temporary = copy_temporary header file copy old sound.homes newest in
      let own : IsRegionOf header h reach.0 old = λ is. used_of header h reach.0 old (copy_shut file copy newest reach) reach.2 in
      let made = knows.chains reach.0 (small_region header h reach.0 old sound own) own reach.1 copy reach.3 in
      ap (λ z. is_on h (home_in (λ r. home_of r old) z)) (sym (sound.homes.copies file copy newest).made) ∙ made.1 temporary

  pub owes_now : (object page copy : ℕ) → OwesPush header h object page copy old → OwesPush header h object page copy new
  owes_now object page copy is = record {
    file = is.file;
    newest = same.newest object (copy_home object copy is.newest is.lives) ∙ is.newest;
    lives =
        reach_shut copy (copy_temporary header object copy old sound.homes is.newest) is.lives (copy_shut object copy is.newest is.lives);
    unpushed = same.pages.pushed copy page ∙ is.unpushed;
  }

  wants_now : (task : ℕ) (access : Access) (r page : ℕ) → IsRegionOf header h r old → WantsFrame header h task access r page old
      → WantsFrame header h task access r page new
  wants_now task access r page own (Nowhere served top top_page steps is sinks) =
      Nowhere (λ declared none. served declared (sym (same.pages.live r) ∙ none)) top top_page steps (top_now r page top top_page own is)
      (sinks_now r page top top_page steps own is sinks)
  wants_now task access r page own (Elsewhere object object_page comes away unasked may ready) =
      Elsewhere object object_page (comes_now r page object object_page own comes) (ap (λ z. z.here) (page_now object object_page) ∙ away)
      (ap (λ z. z.asked) (page_now object object_page) ∙ unasked)
      (ap (λ z. z.may_have) (sight_now object object_page) ∙ may) (same.pages.ready object ∙ ready)
  wants_now task access r page own (Copies object object_page comes here address bytes to is) =
      Copies object object_page (comes_now r page object object_page own comes) (ap (λ z. z.here) (page_now object object_page) ∙ here) address bytes to is
  wants_now task access r page own (Raises top top_page steps object object_page is walks here store) =
      Raises top top_page steps object object_page (top_now r page top top_page own is)
      (walks_now r page top top_page (suc steps) object object_page own is walks) (ap (λ z. z.here) (page_now object object_page) ∙ here) store
  wants_now task access r page own (Pushes object object_page copy is here store owes unasked) =
      Pushes object object_page copy (top_now r page object object_page own is) (ap (λ z. z.here) (page_now object object_page) ∙ here) store
      (owes_now object object_page copy owes) (ap (λ z. z.asked) (page_now copy object_page) ∙ unasked)

  awaits_now : (store : Bool) (object page : ℕ) → Awaits header h store object page old → Awaits header h store object page new
  awaits_now store object page (AnAnswer asked) = AnAnswer (ap (λ z. z.asked) (page_now object page) ∙ asked)
  awaits_now store object page (AReady control live unready) = AReady control (same.pages.live object ∙ live) (same.pages.ready object ∙ unready)
  awaits_now store object page (AnUnlock here named unlocking) =
      AnUnlock (ap (λ z. z.here) (page_now object page) ∙ here) (ap (λ z. names z.lock store) (page_now object page) ∙ named)
      (ap (λ z. z.unlocking) (page_now object page) ∙ unlocking)

  awaits_page_now : (access : Access) (r page : ℕ) → IsRegionOf header h r old → AwaitsPage header h access r page old → AwaitsPage header h access r page new
  awaits_page_now access r page own (AtPlace object object_page place what) =
      AtPlace object object_page (place_now r page object object_page own place) (awaits_now (is_store access) object object_page what)
  awaits_page_now access r page own (ForPush object object_page copy store is owes asked) =
      ForPush object object_page copy store (top_now r page object object_page own is) (owes_now object object_page copy owes)
      (ap (λ z. z.asked) (page_now copy object_page) ∙ asked)

  place_of_wait : (task : ℕ) (access : Access) (w : Waits header task access old) → w.at.host ≡ h → (object page : ℕ)
      → HasPlace header w.at.entry.region.0 (page_of header task access old w.at.entry) object page old
      → HasPlace header w.at.entry.region.0 (page_of header task access new w.at.entry) object page new
  place_of_wait task access w on object page is =
      subst (λ (z : ℕ). HasPlace header w.at.entry.region.0 z object page new) (index_now task access w on w.at.entry)
      (place_now w.at.entry.region.0 (page_of header task access old w.at.entry) object page (own_region task access w on) is)

  -- what they wait for

  for_pager_now : (task : ℕ) (access : Access) → WaitsForPager header h task access old → WaitsForPager header h task access new
  for_pager_now task access is = record {
    waits = waits_now task access is.waits is.on_host;
    on_host = is.on_host;
    what =
        subst (λ (z : ℕ). AwaitsPage header h access is.waits.at.entry.region.0 z new) (index_now task access is.waits is.on_host is.waits.at.entry)
        (awaits_page_now access is.waits.at.entry.region.0 (page_of header task access old is.waits.at.entry) (own_region task access is.waits is.on_host)
        is.what);
  }

  unlocked_now : (object page : ℕ) → WaitsUnlocked header h object page old → WaitsUnlocked header h object page new
  unlocked_now object page is = record {
    task = is.task;
    access = is.access;
    waits = waits_now is.task is.access is.waits is.on_host;
    on_host = is.on_host;
    place = place_of_wait is.task is.access is.waits is.on_host object page is.place;
    here = ap (λ z. z.here) (page_now object page) ∙ is.here;
    named = ap (λ z. names z.lock (is_store is.access)) (page_now object page) ∙ is.named;
    unlocking = ap (λ z. z.unlocking) (page_now object page) ∙ is.unlocking;
  }

  source_now : (object page : ℕ) → IsSource header h object page old → IsSource header h object page new
  source_now object page is =
      let own = own_region is.task is.access is.waits is.on_host in
      let index = index_now is.task is.access is.waits is.on_host is.waits.at.entry in
      record {
        task = is.task;
        access = is.access;
        waits = waits_now is.task is.access is.waits is.on_host;
        on_host = is.on_host;
        comes =
            subst (λ (z : ℕ). Comes header h is.waits.at.entry.region.0 z object page new) index
            (comes_now is.waits.at.entry.region.0 (page_of header is.task is.access old is.waits.at.entry) object page own is.comes);
        wants =
            subst (λ (z : ℕ). WantsFrame header h is.task is.access is.waits.at.entry.region.0 z new) index
            (wants_now is.task is.access is.waits.at.entry.region.0 (page_of header is.task is.access old is.waits.at.entry) own is.wants);
      }

  here_was : (o p : ℕ) → (page_on header h o p new).here ≡ true → (page_on header h o p old).here ≡ true
  here_was o p here = sym (ap (λ z. z.here) (page_now o p)) ∙ here

  exhausted_now : IsExhausted header h old old → IsExhausted header h new new
  exhausted_now = exhausted_still header h old new here_was unlocked_now source_now

  free_now : frames_free header h new ≡ frames_free header h old
  free_now = let held = same.pages.held in let wired = same.pages.wired in omega (arith, held, wired)

  pub full_now : HostIsFull header h old → HostIsFull header h new
  full_now is = record {
    none = free_now ∙ is.none;
    why = elim (is.why) [ inl out ↦ inl (subst (λ (z : ℕ). 0 < z) (sym same.pages.out) out) | inr exhausted ↦ inr (exhausted_now exhausted) ];
  }

  pub vain_now : NoneInVain header h old → NoneInVain header h new
  vain_now none task access waits on =
      elim (none task access (waits_was task access waits on) on) [ inl pager ↦ inl (for_pager_now task access pager) | inr full ↦ inr (full_now full) ]

  -- what is left of temporary objects, and of declared ones

  unheld_was : ((r : ℕ) → is_open r old ≡ false) → (object : ℕ) → IsUnheld header h object new → IsUnheld header h object old
  unheld_was shut object none = record {
    unmapped = λ task lives. sym (ap (has_entry object) (same.task task lives).entries) ∙ none.unmapped task (same.lives task ∙ lives);
    uncached = sym (same.pages.cached object) ∙ none.uncached;
    unreached = λ r depth temporary used below.
        let there : is_used header h r old ≡ true = used_of header h r old (shut r) used in
        none.unreached r depth temporary (use_of header h r new (same.used r temporary ∙ there)) (below_now r depth object (λ is. there) below);
  }

  pub swept_now : ((r : ℕ) → is_open r old ≡ false) → IsSwept header h old → IsSwept header h new
  swept_now shut is = record {
    pages =
        λ object page temporary away. ap (λ z. z.here) (page_now object page)
        ∙ is.pages object page temporary (λ reach. away (reach_now shut object temporary reach));
    controls = λ object temporary away. same.pages.live object ∙ is.controls object temporary (λ reach. away (reach_now shut object temporary reach));
    declared_pages =
        λ object page declared none. ap (λ z. z.here) (page_now object page) ∙ is.declared_pages object page declared (unheld_was shut object none);
    declared_controls = λ object declared none. same.pages.live object ∙ is.declared_controls object declared (unheld_was shut object none);
  }
