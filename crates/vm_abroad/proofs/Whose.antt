-- An event of one host is nothing to another.
use Rattle.std.proofs.Common.{◌≡◌, ℕ, ◌==◌, ◌||◌, Bool, true, false, List, [], ◌∷◌, ◌++◌, refl, ap, sym, ◌∙◌, arith, inl, inr}
use Rattle.std.proofs.lemmas.Bool.Decides.{nat_tests}
use Rattle.std.specs.Prelude.{◌≢◌}
use Rattle.std.proofs.lemmas.Bool.{cases_lt}
use Rattle.vm_model.specs.declared.event.Event.{Event}
use Rattle.vm_model.specs.declared.event.Event.TheVariants as event
use Rattle.vm_model.specs.declared.message.Channel.TheVariants.{Up, Down}
use Rattle.vm_model.specs.declared.script.Header.{Header}
use Rattle.vm_model.specs.Homes.{object_home}
use Rattle.vm_model.specs.Local.{is_on}
use Rattle.vm_model.specs.Named.{named}
use Rattle.vm_legal.specs.Homes.{EntersNext, IsOnlyOfHost, begins_here, gives_frame, is_home}
use Rattle.vm_legal.specs.Licences.{HasCause}
use Rattle.vm_legal.specs.Living.{lives_on}
use Rattle.vm_legal.specs.Outside.{Outside}
use Rattle.vm_legal.specs.Stretches.{EachIn}
use Rattle.vm_abroad.specs.Sound.{IsAbroad, Sound}
use Rattle.vm_abroad.specs.Whose.{IsNewTask, IsOfHost}
use Rattle.vm_abroad.proofs.Home.{on_host, same_some}
use Rattle.vm_abroad.proofs.Sounds.{both_left, copied_on, one_home, shut_before, used_of}

one_number : (a g h : ℕ) → (a == g) ≡ true → (a == h) ≡ true → h ≡ g
one_number a g h one two = grind (arith, nat_tests)

one_task : (g h task : ℕ) (past : List Event) → lives_on g task past ≡ true → lives_on h task past ≡ true → h ≡ g
one_task g h task past one two = one_home h g task past two one

-- a task that begins does so on one host
first_of : (a b : Bool) → b ≡ false → (a || b) ≡ true → a ≡ true
first_of true b none is = refl
first_of false b none is = absurd (let bad : false ≡ true = sym none ∙ is in cc)

one_copy : (g h : ℕ) (past : List Event) → begins_here g past ≡ true → begins_here h past ≡ true → h ≡ g
one_copy g h (event.BegunCopy task address bytes to ∷ past) one two = one_task g h task.0 past one two
one_copy g h [] one two = absurd (let bad : false ≡ true = one in cc)
one_copy g h (e ∷ past) one two = absurd (let bad : false ≡ true = one in cc)

pub own_of_home : (header : Header) (outside : Outside) (g : ℕ) (e : Event) (past : List Event) → Sound header past → HasCause header outside e past
    → EntersNext e past → IsNewTask e past → is_home header g e past ≡ true → IsOnlyOfHost header g e past
own_of_home header outside g (event.TaskMade task host) past sound cause next new home h there =
    let none : (k : ℕ) → lives_on k task.0 past ≡ false = λ k. ap (is_on k) new in
    one_number host.0 g h (first_of (host.0 == g) (lives_on g task.0 past) (none g) home) (first_of (host.0 == h) (lives_on h task.0 past) (none h) there)
own_of_home header outside g (event.TaskEnded task) past sound cause next new home h there = one_task g h task.0 past home there
own_of_home header outside g (event.RegionMade region object pages) past sound cause next new home h there = one_copy g h past home there
own_of_home header outside g (event.RegionCopied region source offset pages) past sound cause next new home h there =
    let shut = shut_before source.0 (event.RegionCopied region source offset pages) past next refl in
    sound.apart h g source.0 cause.1.temporary (used_of header h source.0 past shut there) (used_of header g source.0 past shut home)
own_of_home header outside g (event.Delayed region source offset pages copy) past sound cause next new home h there =
    copied_on header h region.0 source.0 offset pages copy.0 past sound cause.1 there
    ∙ sym (copied_on header g region.0 source.0 offset pages copy.0 past sound cause.1 home)
own_of_home header outside g (event.Entered task address bytes region offset prot inherit) past sound cause next new home h there =
    one_task g h task.0 past home there
own_of_home header outside g (event.Removed task address bytes) past sound cause next new home h there = one_task g h task.0 past home there
own_of_home header outside g (event.Protected task address bytes prot) past sound cause next new home h there = one_task g h task.0 past home there
own_of_home header outside g (event.Inherited task address bytes inherit) past sound cause next new home h there = one_task g h task.0 past home there
own_of_home header outside g (event.BegunLoad task address size) past sound cause next new home h there = one_task g h task.0 past home there
own_of_home header outside g (event.BegunStore task address size value) past sound cause next new home h there = one_task g h task.0 past home there
own_of_home header outside g (event.BegunCopy task address bytes to) past sound cause next new home h there = one_task g h task.0 past home there
own_of_home header outside g (event.Loaded task object page value) past sound cause next new home h there = one_task g h task.0 past home there
own_of_home header outside g (event.Stored task object page at size value) past sound cause next new home h there = one_task g h task.0 past home there
own_of_home header outside g (event.CopiedPage task page object object_page target) past sound cause next new home h there = one_task g h task.0 past home there
own_of_home header outside g (event.CopyEnded task) past sound cause next new home h there = one_task g h task.0 past home there
own_of_home header outside g (event.Failed task object page) past sound cause next new home h there = one_task g h task.0 past home there
own_of_home header outside g (event.Sent (Up host object) m) past sound cause next new home h there = one_number host.0 g h home there
own_of_home header outside g (event.Sent (Down host object control) m) past sound cause next new home h there = absurd (let bad : false ≡ true = home in cc)
own_of_home header outside g (event.Taken (Up host object) m) past sound cause next new home h there =
    one_number host.0 g h (both_left (host.0 == g) (gives_frame m) home) (both_left (host.0 == h) (gives_frame m) there)
own_of_home header outside g (event.Taken (Down host object control) m) past sound cause next new home h there = one_number host.0 g h home there
own_of_home header outside g (event.Dropped host object page) past sound cause next new home h there = one_number host.0 g h home there
own_of_home header outside g (event.Zeroed host object page) past sound cause next new home h there = one_number host.0 g h home there
own_of_home header outside g (event.Raised host lower lower_page upper upper_page) past sound cause next new home h there = one_number host.0 g h home there
own_of_home header outside g (event.Wired host count) past sound cause next new home h there = one_number host.0 g h home there
own_of_home header outside g (event.Shadowed region new_object old) past sound cause next new home h there = elim (cases_lt region.0 (named header)) [
  | inl declared ↦ let bad : false ≡ true = sym (sound.unmarked region.0 declared) ∙ cause.1.marked in absurd (cc)
  | inr temporary ↦
      let shut = shut_before region.0 (event.Shadowed region new_object old) past next refl in
      sound.apart h g region.0 temporary (used_of header h region.0 past shut there) (used_of header g region.0 past shut home)
]
own_of_home header outside g (event.Unmarked region) past sound cause next new home h there = elim (cases_lt region.0 (named header)) [
  | inl declared ↦ let bad : false ≡ true = sym (sound.unmarked region.0 declared) ∙ cause.1.marked in absurd (cc)
  | inr temporary ↦
      let shut = shut_before region.0 (event.Unmarked region) past next refl in
      sound.apart h g region.0 temporary (used_of header h region.0 past shut there) (used_of header g region.0 past shut home)
]
own_of_home header outside g (event.Merged upper lower) past sound cause next new home h there =
    same_some h g (sym (on_host h (object_home upper.0 past) there) ∙ on_host g (object_home upper.0 past) home)
own_of_home header outside g other past sound cause next new home h there = absurd (let bad : false ≡ true = home in cc)

pub foreign_of_own : (header : Header) (g h : ℕ) (e : Event) (past : List Event) → IsOnlyOfHost header g e past → h ≢ g → is_home header h e past ≡ false
foreign_of_own header g h e past own apart = by_test (is_home header h e past) refl
  where
    by_test : (b : Bool) → is_home header h e past ≡ b → b ≡ false
    by_test false is = refl
    by_test true is = absurd (apart (own h is))

pub abroad_of_own : (header : Header) (outside : Outside) (g h : ℕ) (events past : List Event) → h ≢ g → EachIn (IsOfHost header outside g) events past
    → EachIn (IsAbroad header outside h) events past
abroad_of_own header outside g h [] past apart each = tt
abroad_of_own header outside g h (e ∷ events) past apart each = (
  record { cause = each.0.cause; enters = each.0.enters; foreign = foreign_of_own header g h e (events ++ past) each.0.own apart },
  abroad_of_own header outside g h events past apart each.1,
)
