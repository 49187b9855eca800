-- The regions and objects of a host, under an event that is nothing to it.
use Rattle.std.proofs.Common.{◌≡◌, ℕ, ◌<◌, ◌≤◌, ◌==◌, ◌&&◌, ◌||◌, Bool, true, false, not, List, [], ◌∷◌, refl, ap, sym, ◌∙◌, subst, arith, inl, inr}
use Rattle.std.proofs.Common.{Option, Some, None}
use Rattle.std.proofs.lemmas.Bool.Decides.{nat_tests}
use Rattle.std.specs.Prelude.{◌⊎◌, if◌then◌else◌, nat_lt}
use Rattle.std.proofs.lemmas.Bool.{cases_lt}
use Rattle.vm_model.specs.declared.event.Event.{Event}
use Rattle.vm_model.specs.declared.event.Event.TheVariants as event
use Rattle.vm_model.specs.declared.script.Header.{Header}
use Rattle.vm_model.specs.Homes.{home_in, home_of, object_home, region_for}
use Rattle.vm_model.specs.Local.{is_on}
use Rattle.vm_model.specs.Named.{named}
use Rattle.vm_model.specs.Regions.{backing_of, is_copy, is_newest, newest_copy, next_object, next_region, object_pages, region_of}
use Rattle.vm_model.specs.Tasks.{entries_of, has_entry}
use Rattle.vm_model.specs.Waiting.{copy_target, fills, waiting}
use Rattle.vm_legal.specs.Homes.{EntersNext, begins_here, enters, is_home, is_open, is_used, starts_copy}
use Rattle.vm_legal.specs.Licences.{Enters}
use Rattle.vm_legal.specs.Living.{lives_on, tasks}
use Rattle.vm_legal.specs.Outside.{Outside, is_file}
use Rattle.vm_legal.specs.Used.{in_use, is_held, is_kept, made_here}
use Rattle.vm_abroad.specs.Sound.{IsAbroad, IsAmong, IsHeldOn, IsObjectOf, IsRegionOf, Knows, Sound}
use Rattle.vm_abroad.proofs.Home.{copy_temporary, on_host}
use Rattle.vm_abroad.proofs.Sounds.{no_shadow, shut_before, shut_of, unlike, use_of, used_of}
use Rattle.vm_abroad.proofs.Tasks.{task_abroad}

-- what its tasks hold, they hold still

held_among : (size r task : ℕ) (ts : List ℕ) (past : List Event) → IsAmong task ts
    → (has_entry r (entries_of size task past) || fills r (waiting task past) (copy_target task past)) ≡ true → is_held size r ts past ≡ true
held_among size r task [] past among holds = absurd among
held_among size r task (t ∷ ts) past (inl same) holds =
    first (has_entry r (entries_of size t past) || fills r (waiting t past) (copy_target t past)) (is_held size r ts past)
    (ap (λ z. has_entry r (entries_of size z past) || fills r (waiting z past) (copy_target z past)) same ∙ holds)
  where
    first : (a b : Bool) → a ≡ true → (a || b) ≡ true
    first true b is = refl
    first false b is = absurd (let bad : false ≡ true = is in cc)
held_among size r task (t ∷ ts) past (inr later) holds =
    second (has_entry r (entries_of size t past) || fills r (waiting t past) (copy_target t past)) (is_held size r ts past)
    (held_among size r task ts past later holds)
  where
    second : (a b : Bool) → b ≡ true → (a || b) ≡ true
    second true b is = refl
    second false b is = is

holds_one : (a b : Bool) → (a ≡ true) ⊎ (b ≡ true) → (a || b) ≡ true
holds_one true b is = refl
holds_one false b (inl is) = absurd (let bad : false ≡ true = is in cc)
holds_one false b (inr is) = is

still_kept : (header : Header) (h r : ℕ) (e : Event) (past : List Event) → tasks (e ∷ past) ≡ tasks past → is_home header h e past ≡ false
    → IsHeldOn header h r past → is_kept header r (e ∷ past) ≡ true
still_kept header h r e past made foreign held =
    let same = task_abroad header h e past foreign held.task held.lives in
    let holds : (has_entry r (entries_of header.size held.task (e ∷ past)) || fills r (waiting held.task (e ∷ past))
    (copy_target held.task (e ∷ past))) ≡ true =
    ap (λ z. has_entry r z || fills r (waiting held.task (e ∷ past)) (copy_target held.task (e ∷ past))) same.entries
    ∙ (ap (λ z. has_entry r (entries_of header.size held.task past) || fills r z (copy_target held.task (e ∷ past))) same.waiting
    ∙ (ap (λ z. has_entry r (entries_of header.size held.task past) || fills r (waiting held.task past) z) same.target
    ∙ holds_one (has_entry r (entries_of header.size held.task past)) (fills r (waiting held.task past) (copy_target held.task past)) held.holds)) in
    let is : is_held header.size r (tasks (e ∷ past)) (e ∷ past) ≡ true = held_among header.size r held.task (tasks (e ∷ past)) (e ∷ past)
    (subst (IsAmong held.task) (sym made) held.made) holds in
    last (nat_lt r (named header)) (is_held header.size r (tasks (e ∷ past)) (e ∷ past)) is
  where
    last : (a b : Bool) → b ≡ true → (a || b) ≡ true
    last true b is = refl
    last false b is = is

-- what is used

was_shut : (b : Bool) (r : ℕ) (past : List Event) → is_open r past ≡ false → (b && true) ≡ (b && not (is_open r past))
was_shut b r past shut = rw shut refl

fresh_unused : (header : Header) (h r : ℕ) (past : List Event) → Sound header past → named header ≤ r → next_region header past ≤ r
    → is_used header h r past ≡ false
fresh_unused header h r past sound temporary fresh = by_test (is_used header h r past) refl
  where
    by_test : (b : Bool) → is_used header h r past ≡ b → b ≡ false
    by_test false is = refl
    by_test true is = let small = sound.made h r temporary (use_of header h r past is) in absurd (omega (arith, small, fresh))

made_unused : (h : ℕ) (past : List Event) → begins_here h past ≡ false → (made_here h past && not (true && not (starts_copy past))) ≡ false
made_unused h [] none = refl
made_unused h (event.BegunCopy task address bytes to ∷ past) none = rw none refl
made_unused h (e ∷ past) none = refl

-- an entry of another host is on none of its regions
entered_unused : (header : Header) (h r task bytes offset : ℕ) (past : List Event) → Sound header past → Enters header task bytes r offset past
    → lives_on h task past ≡ false → named header ≤ r → is_used header h r past ≡ false
entered_unused header h r task bytes offset past sound enters away temporary = by_test (is_used header h r past) refl
  where
    by_test : (b : Bool) → is_used header h r past ≡ b → b ≡ false
    by_test false is = refl
    by_test true is =
        let there : is_used header enters.host r past ≡ true = used_of header enters.host r past (shut_of header h r past is) (enters.used temporary) in
        let one : enters.host ≡ h = sound.apart enters.host h r temporary there is in
        let here : lives_on h task past ≡ true = ap (is_on h) enters.lives ∙ (let e : (enters.host == h) ≡ true = grind (arith, nat_tests) in e) in
        absurd (let bad : true ≡ false = sym here ∙ away in cc)

-- what is kept while its tasks hold it
kept_used : (header : Header) (h r : ℕ) (e : Event) (past : List Event) → EntersNext e past → enters r e ≡ false
    → (is_used header h r past ≡ true → is_kept header r (e ∷ past) ≡ true)
    → ((is_kept header r (e ∷ past) && in_use header h r past) && true) ≡ is_used header h r past
kept_used header h r e past next other keeps = by_test (in_use header h r past) refl
  where
    shut : is_open r past ≡ false
    shut = shut_before r e past next other

    by_test : (b : Bool) → in_use header h r past ≡ b → ((is_kept header r (e ∷ past) && b) && true) ≡ (b && not (is_open r past))
    by_test true is = rw (keeps (used_of header h r past shut is), shut) refl
    by_test false is = none (is_kept header r (e ∷ past))
      where
        none : (a : Bool) → ((a && false) && true) ≡ false
        none true = refl
        none false = refl

pub used_abroad : (header : Header) (outside : Outside) (h : ℕ) (e : Event) (past : List Event) → Sound header past → Knows header h past
    → IsAbroad header outside h e past → (r : ℕ) → named header ≤ r → is_used header h r (e ∷ past) ≡ is_used header h r past
used_abroad header outside h (event.RegionMade new object pages) past sound knows abroad r temporary = by_test (r == new.0) refl
  where
    by_test : (b : Bool) → (r == new.0) ≡ b → ((if b then made_here h past else in_use header h r past) && not (b && not (starts_copy past))) ≡ is_used header h
        r past
    by_test true is =
        let it : r ≡ new.0 = grind (arith, nat_tests) in
        let number = abroad.cause.1.0 in
        made_unused h past abroad.foreign ∙ sym (fresh_unused header h r past sound temporary (omega (arith, it, number)))
    by_test false is = was_shut (in_use header h r past) r past (shut_before r (event.RegionMade new object pages) past abroad.enters refl)
used_abroad header outside h (event.RegionCopied new source offset pages) past sound knows abroad r temporary = by_test (r == new.0) refl
  where
    by_test : (b : Bool) → (r == new.0) ≡ b → ((if b then in_use header h source.0 past else in_use header h r past) && true) ≡ is_used header h r past
    by_test true is =
        let it : r ≡ new.0 = grind (arith, nat_tests) in
        let number = abroad.cause.1.next in
        ap (λ z. z && true) abroad.foreign ∙ sym (fresh_unused header h r past sound temporary (omega (arith, it, number)))
    by_test false is = was_shut (in_use header h r past) r past (shut_before r (event.RegionCopied new source offset pages) past abroad.enters refl)
used_abroad header outside h (event.Delayed new source offset pages copy) past sound knows abroad r temporary = by_test (r == new.0) refl
  where
    by_test : (b : Bool) → (r == new.0) ≡ b → ((if b then in_use header h source.0 past else in_use header h r past) && true) ≡ is_used header h r past
    by_test true is =
        let it : r ≡ new.0 = grind (arith, nat_tests) in
        let number = abroad.cause.1.next in
        ap (λ z. z && true) abroad.foreign ∙ sym (fresh_unused header h r past sound temporary (omega (arith, it, number)))
    by_test false is = was_shut (in_use header h r past) r past (shut_before r (event.Delayed new source offset pages copy) past abroad.enters refl)
used_abroad header outside h (event.Entered task address bytes entered offset prot inherit) past sound knows abroad r temporary = by_test (r == entered.0) refl
  where
    by_test : (b : Bool) → (r == entered.0) ≡ b → (((not b || lives_on h task.0 past) && in_use header h r past) && true) ≡ is_used header h r past
    by_test true is =
        let it : r ≡ entered.0 = grind (arith, nat_tests) in
        let none = entered_unused header h entered.0 task.0 bytes offset past sound abroad.cause.1 abroad.foreign
        (subst (λ (z : ℕ). named header ≤ z) it temporary) in
        ap (λ z. (z && in_use header h r past) && true) abroad.foreign ∙ sym (ap (λ z. is_used header h z past) it ∙ none)
    by_test false is =
        was_shut (in_use header h r past) r past (shut_before r (event.Entered task address bytes entered offset prot inherit) past abroad.enters is)
used_abroad header outside h (event.Removed task address bytes) past sound knows abroad r temporary =
    kept_used header h r (event.Removed task address bytes) past abroad.enters refl
    (λ used. still_kept header h r (event.Removed task address bytes) past refl abroad.foreign (knows.held r temporary used))
used_abroad header outside h (event.TaskEnded task) past sound knows abroad r temporary =
    kept_used header h r (event.TaskEnded task) past abroad.enters refl (λ used. still_kept header h r (event.TaskEnded task) past refl abroad.foreign
    (knows.held r temporary used))
used_abroad header outside h (event.Failed task object page) past sound knows abroad r temporary =
    kept_used header h r (event.Failed task object page) past abroad.enters refl (λ used. still_kept header h r (event.Failed task object page) past refl
    abroad.foreign (knows.held r temporary used))
used_abroad header outside h other past sound knows abroad r temporary = was_shut (in_use header h r past) r past (shut_before r other past abroad.enters refl)

-- what they are over

-- a region of the host isn't one that is in use elsewhere alone
not_elsewhere : (header : Header) (h r other : ℕ) (past : List Event) → IsRegionOf header h r past → named header ≤ r → in_use header h other past ≡ false
    → (r == other) ≡ false
not_elsewhere header h r other past own temporary away =
    unlike r other (λ same. let bad : true ≡ false = sym (use_of header h r past (own temporary))
    ∙ (ap (λ z. in_use header h z past) same ∙ away) in absurd (cc))

-- an object, or a region, is declared or temporary
pub kind_cases : (header : Header) (r : ℕ) → (r < named header) ⊎ (named header ≤ r)
kind_cases header r = cases_lt r (named header)

pub region_abroad : (header : Header) (outside : Outside) (h : ℕ) (e : Event) (past : List Event) → Sound header past → IsAbroad header outside h e past
    → (r : ℕ) → r < next_region header past → IsRegionOf header h r past
    → region_of header r (e ∷ past) ≡ region_of header r past
region_abroad header outside h (event.RegionMade new object pages) past sound abroad r small own =
    let number = abroad.cause.1.0 in
    let other : (r == new.0) ≡ false = unlike r new.0 (λ same. omega (arith, same, number, small)) in
    rw other refl
region_abroad header outside h (event.RegionCopied new source offset pages) past sound abroad r small own =
    let number = abroad.cause.1.next in
    let other : (r == new.0) ≡ false = unlike r new.0 (λ same. omega (arith, same, number, small)) in
    let away : (r == source.0) ≡ false = elim (kind_cases header r) [
      | inl declared ↦ let temporary = abroad.cause.1.temporary in unlike r source.0 (λ same. omega (arith, same, temporary, declared))
      | inr temporary ↦ not_elsewhere header h r source.0 past own temporary abroad.foreign
    ] in
    rw (other, away) refl
region_abroad header outside h (event.Delayed new source offset pages copy) past sound abroad r small own =
    let number = abroad.cause.1.next in
    let other : (r == new.0) ≡ false = unlike r new.0 (λ same. omega (arith, same, number, small)) in
    rw other refl
region_abroad header outside h (event.Shadowed changed new old) past sound abroad r small own =
    let away : (r == changed.0) ≡ false = elim (kind_cases header r) [
      | inl declared ↦ no_shadow header r changed.0 past sound declared abroad.cause.1.marked
      | inr temporary ↦ not_elsewhere header h r changed.0 past own temporary abroad.foreign
    ] in
    rw away refl
region_abroad header outside h (event.Unmarked changed) past sound abroad r small own =
    let away : (r == changed.0) ≡ false = elim (kind_cases header r) [
      | inl declared ↦ no_shadow header r changed.0 past sound declared abroad.cause.1.marked
      | inr temporary ↦ not_elsewhere header h r changed.0 past own temporary abroad.foreign
    ] in
    rw away refl
region_abroad header outside h other past sound abroad r small own = refl

-- a file that isn't in use on the host isn't at home there
file_away : (header : Header) (h file : ℕ) (past : List Event) → Sound header past → is_file header file ≡ true → in_use header h file past ≡ false
    → is_on h (home_of file past) ≡ true → ⊥
file_away header h file past sound is_one away on =
    let used : in_use header h file past ≡ true = sound.homes.files file h is_one (inr (on_host h (home_of file past) on)) in
    let bad : true ≡ false = sym used ∙ away in
    cc

-- and its newest copy is none of the host's objects
copy_away : (header : Header) (h o file : ℕ) (past : List Event) → Sound header past → is_file header file ≡ true → in_use header h file past ≡ false
    → IsObjectOf header h o past → is_newest o (newest_copy file past) ≡ false
copy_away header h o file past sound is_one away own = by (newest_copy file past) refl
  where
    by : (x : Option ℕ) → newest_copy file past ≡ x → is_newest o x ≡ false
    by None none = refl
    by (Some copy) is = unlike o copy (λ same.
        let temporary : named header ≤ o = subst (λ (z : ℕ). named header ≤ z) (sym same) (copy_temporary header file copy past sound.homes is) in
        let made : region_for o past ≡ Some file = ap (λ z. region_for z past) same ∙ (sound.homes.copies file copy is).made in
        file_away header h file past sound is_one away (ap (λ z. is_on h (home_in (λ r. home_of r past) z)) (sym made) ∙ own temporary))

pub backing_abroad : (header : Header) (outside : Outside) (h : ℕ) (e : Event) (past : List Event) → Sound header past → IsAbroad header outside h e past
    → (o : ℕ) → o < next_object header past → IsObjectOf header h o past → backing_of header o (e ∷ past) ≡ backing_of header o past
backing_abroad header outside h (event.Shadowed changed new old) past sound abroad o small own =
    let number = abroad.cause.1.next in
    let other : (o == new.0) ≡ false = unlike o new.0 (λ same. omega (arith, same, number, small)) in
    rw other refl
backing_abroad header outside h (event.Merged upper lower) past sound abroad o small own =
    let pair = abroad.cause.1.pair in
    let other : (o == upper.0) ≡ false = elim (cases_lt o (named header)) [
      | inl declared ↦ unlike o upper.0 (λ same. absurd (let bad : false ≡ true = sym (sound.bare o declared)
          ∙ (ap (λ z. (backing_of header z past).backed) same ∙ pair.backed) in cc))
      | inr temporary ↦ unlike o upper.0 (λ same. absurd (let bad : true ≡ false = sym (own temporary)
          ∙ (ap (λ z. is_on h (object_home z past)) same ∙ abroad.foreign) in cc))
    ] in
    rw other refl
backing_abroad header outside h (event.Delayed new source offset pages copy) past sound abroad o small own =
    let number = abroad.cause.1.new in
    let other : (o == copy.0) ≡ false = unlike o copy.0 (λ same. omega (arith, same, number, small)) in
    rw (other, copy_away header h o source.0 past sound abroad.cause.1.file abroad.foreign own) refl
backing_abroad header outside h other past sound abroad o small own = refl

-- objects have the pages that they were made with
pub sizes_abroad : (header : Header) (outside : Outside) (h : ℕ) (e : Event) (past : List Event) → IsAbroad header outside h e past
    → (o : ℕ) → o < next_object header past → object_pages header o (e ∷ past) ≡ object_pages header o past
sizes_abroad header outside h (event.RegionMade region new pages) past abroad o small =
    let number = abroad.cause.1.1 in
    let other : (o == new.0) ≡ false = unlike o new.0 (λ same. omega (arith, same, number, small)) in
    rw other refl
sizes_abroad header outside h (event.Shadowed region new old) past abroad o small =
    let number = abroad.cause.1.next in
    let other : (o == new.0) ≡ false = unlike o new.0 (λ same. omega (arith, same, number, small)) in
    rw other refl
sizes_abroad header outside h (event.Delayed new source offset pages copy) past abroad o small =
    let number = abroad.cause.1.new in
    let other : (o == copy.0) ≡ false = unlike o copy.0 (λ same. omega (arith, same, number, small)) in
    rw other refl
sizes_abroad header outside h other past abroad o small = refl

-- a file at home on the host gets no copy
pub newest_abroad : (header : Header) (outside : Outside) (h : ℕ) (e : Event) (past : List Event) → Sound header past → IsAbroad header outside h e past
    → (file : ℕ) → is_on h (home_of file past) ≡ true → newest_copy file (e ∷ past) ≡ newest_copy file past
newest_abroad header outside h (event.Delayed new source offset pages copy) past sound abroad file on =
    let other : (file == source.0) ≡ false = unlike file source.0 (λ same. file_away header h source.0 past sound abroad.cause.1.file abroad.foreign
    (ap (λ z. is_on h (home_of z past)) (sym same) ∙ on)) in
    rw other refl
newest_abroad header outside h other past sound abroad file on = refl

-- what was made is a copy or not as before
pub copies_abroad : (header : Header) (outside : Outside) (h : ℕ) (e : Event) (past : List Event) → IsAbroad header outside h e past
    → (o : ℕ) → o < next_object header past → is_copy o (e ∷ past) ≡ is_copy o past
copies_abroad header outside h (event.Delayed new source offset pages copy) past abroad o small =
    let number = abroad.cause.1.new in
    let other : (o == copy.0) ≡ false = unlike o copy.0 (λ same. omega (arith, same, number, small)) in
    rw other refl
copies_abroad header outside h other past abroad o small = refl
