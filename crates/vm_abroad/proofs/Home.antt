-- The home of a region stays what it is, and so does that of an object; what wasn't made has none; and a region is in use on its home alone.
use Rattle.std.proofs.Common.{◌≡◌, ◌+◌, ◌≤◌, ◌<◌, ◌&&◌, ◌||◌, not, ℕ, ◌==◌, Bool, true, false, List, [], ◌∷◌, ◌++◌, Option, Some, None, ap, refl, subst, sym}
use Rattle.std.proofs.Common.{◌∙◌, arith, ◌⊎◌, inl, inr}
use Rattle.std.proofs.lemmas.Bool.{cases_lt, or_right}
use Rattle.std.proofs.lemmas.Bool.Decides.{eqb_tells, nat_tests}
use Rattle.std.specs.Prelude.{if◌then◌else◌, nat_lt, unwrap_or}
use Rattle.vm_base.specs.declared.ids.Inherit.{Inherit}
use Rattle.vm_base.specs.declared.ids.ObjectId.{ObjectId}
use Rattle.vm_base.specs.declared.ids.Prot.{Prot}
use Rattle.vm_base.specs.declared.ids.RegionId.{RegionId}
use Rattle.vm_base.specs.declared.ids.TaskId.{TaskId}
use Rattle.vm_model.specs.declared.event.Event.{Event}
use Rattle.vm_model.specs.declared.event.Event.TheVariants as event
use Rattle.vm_model.specs.declared.script.Header.{Header}
use Rattle.vm_model.specs.Homes.{copying_host, first_of, home_in, home_of, object_home, region_for}
use Rattle.vm_model.specs.Local.{is_on}
use Rattle.vm_model.specs.Named.{declared_pages, named}
use Rattle.vm_model.specs.Regions.{Backing, backing_of, is_copy, is_newest, joined, newest_copy, next_object, next_region, over, pushed, region_of}
use Rattle.vm_model.specs.Tasks.{host_of}
use Rattle.vm_model.specs.Waiting.{Target, begins_copy, copy_target}
use Rattle.vm_legal.specs.Homes.{begins_here, is_home}
use Rattle.vm_legal.specs.Licences.{HasCause}
use Rattle.vm_legal.specs.Living.{lives_on, tasks}
use Rattle.vm_legal.specs.Merges.{Merges}
use Rattle.vm_legal.specs.Outside.{Outside, is_file}
use Rattle.vm_legal.specs.Stretches.{EachIn}
use Rattle.vm_legal.specs.Used.{in_use, is_held, is_kept, made_here}
use Rattle.vm_abroad.specs.Home.{HaveHomes, IsCopyOf, IsOverCopy}
use Rattle.vm_abroad.specs.Sound.{IsAbroad}
use Rattle.vm_abroad.proofs.Numbers.{unlike}
use Rattle.vm_legal.proofs.Homes.{first_stays, made_there, region_stays}
pub use Rattle.vm_legal.proofs.Files.{file_named}
pub use Rattle.vm_legal.proofs.Homes.{home_stays, object_stays, on_host, same_some}
pub use Rattle.vm_legal.proofs.Numbering.{named_objects, named_regions}

pub homes_stay : (r h : ℕ) (events past : List Event) → home_of r past ≡ Some h → home_of r (events ++ past) ≡ Some h
homes_stay r h [] past is = is
homes_stay r h (e ∷ events) past is = home_stays r h e (events ++ past) (homes_stay r h events past is)

-- the first entry on a region gives it its home
pub home_entered : (h : ℕ) (task : TaskId) (address bytes : ℕ) (region : RegionId) (offset : ℕ) (prot : Prot) (inherit : Inherit) (past : List Event)
    → home_of region.0 past ≡ None → host_of task.0 past ≡ Some h
    → home_of region.0 (event.Entered task address bytes region offset prot inherit ∷ past) ≡ Some h
home_entered h task address bytes region offset prot inherit past none lives =
    let same : (region.0 == region.0) ≡ true = grind (arith, nat_tests) in
    ap (λ b. if b then first_of (home_of region.0 past) (host_of task.0 past) else home_of region.0 past) same
    ∙ (ap (λ z. first_of z (host_of task.0 past)) none ∙ lives)

-- one more entry on a region that has a home leaves all homes as they were
pub homes_kept : (f r : ℕ) (task : TaskId) (address bytes : ℕ) (region : RegionId) (offset : ℕ) (prot : Prot) (inherit : Inherit) (past : List Event)
    → home_of region.0 past ≡ Some f
    → home_of r (event.Entered task address bytes region offset prot inherit ∷ past) ≡ home_of r past
homes_kept f r task address bytes region offset prot inherit past has = elim (eqb_tells region.0 r) [
  | inl same ↦
      let home : home_of r past ≡ Some f = ap (λ z. home_of z past) (sym same.1) ∙ has in
      first_stays (region.0 == r) f (home_of r past) (host_of task.0 past) home ∙ sym home
  | inr apart ↦ rw apart.0 refl
]

-- an entry leaves the homes of other regions
pub home_apart : (r : ℕ) (task : TaskId) (address bytes : ℕ) (region : RegionId) (offset : ℕ) (prot : Prot) (inherit : Inherit) (past : List Event)
    → (region.0 ≡ r → ⊥) → home_of r (event.Entered task address bytes region offset prot inherit ∷ past) ≡ home_of r past
home_apart r task address bytes region offset prot inherit past apart = rw (unlike region.0 r apart) refl

-- nor does a region that is made move other regions; and it has no home, unless a slow copy fills it

pub home_made : (r : ℕ) (region : RegionId) (object : ObjectId) (pages : ℕ) (past : List Event) → (region.0 ≡ r → ⊥)
    → home_of r (event.RegionMade region object pages ∷ past) ≡ home_of r past
home_made r region object pages past apart = rw (unlike region.0 r apart) refl

pub home_plain : (r : ℕ) (region : RegionId) (object : ObjectId) (pages : ℕ) (past : List Event) → copying_host past ≡ None
    → home_of r (event.RegionMade region object pages ∷ past) ≡ home_of r past
home_plain r region object pages past plain =
    ap (λ x. if region.0 == r then first_of (home_of r past) x else home_of r past) plain ∙ by (region.0 == r) (home_of r past)
  where
    by : (b : Bool) (was : Option ℕ) → (if b then first_of was None else was) ≡ was
    by true None = refl
    by true (Some h) = refl
    by false was = refl

-- what other hosts do makes no region this host's

copied_here : (h : ℕ) (past : List Event) → is_on h (copying_host past) ≡ begins_here h past
copied_here h (event.BegunCopy task address bytes to ∷ past) = refl
copied_here h [] = refl
copied_here h (e ∷ past) = refl

entered_abroad : (h : ℕ) (b : Bool) (was x : Option ℕ) → is_on h x ≡ false → is_on h (if b then first_of was x else was) ≡ is_on h was
entered_abroad h true None x foreign = foreign
entered_abroad h true (Some f) x foreign = refl
entered_abroad h false was x foreign = refl

pub home_abroad : (header : Header) (h r : ℕ) (e : Event) (past : List Event) → is_home header h e past ≡ false
    → is_on h (home_of r (e ∷ past)) ≡ is_on h (home_of r past)
home_abroad header h r (event.Entered task address bytes region offset prot inherit) past foreign =
    entered_abroad h (region.0 == r) (home_of r past) (host_of task.0 past) foreign
home_abroad header h r (event.RegionMade region object pages) past foreign =
    entered_abroad h (region.0 == r) (home_of r past) (copying_host past) (copied_here h past ∙ foreign)
home_abroad header h r other past foreign = refl

pub homes_abroad : (header : Header) (outside : Outside) (h r : ℕ) (events past : List Event) → EachIn (IsAbroad header outside h) events past
    → is_on h (home_of r (events ++ past)) ≡ is_on h (home_of r past)
homes_abroad header outside h r [] past abroad = refl
homes_abroad header outside h r (e ∷ events) past abroad =
    home_abroad header h r e (events ++ past) abroad.0.foreign ∙ homes_abroad header outside h r events past abroad.1

-- an object keeps the region that it was made for, and its home

pub objects_stay : (o h : ℕ) (events past : List Event) → object_home o past ≡ Some h → object_home o (events ++ past) ≡ Some h
objects_stay o h [] past is = is
objects_stay o h (e ∷ events) past is = object_stays o h e (events ++ past) (objects_stay o h events past is)

itself : (n : ℕ) → (n == n) ≡ true
itself n = grind (arith, nat_tests)

pub on_own : (h : ℕ) → is_on h (Some h) ≡ true
on_own h = itself h

pub home_on : (h o : ℕ) (e : Event) (past : List Event) → is_on h (object_home o past) ≡ true → is_on h (object_home o (e ∷ past)) ≡ true
home_on h o e past on = ap (is_on h) (object_stays o h e past (on_host h (object_home o past) on)) ∙ on_own h

-- a new object is made for its region
pub region_made : (region : RegionId) (object : ObjectId) (pages : ℕ) (past : List Event) → region_for object.0 past ≡ None
    → region_for object.0 (event.RegionMade region object pages ∷ past) ≡ Some region.0
region_made region object pages past none =
    ap (λ b. if b then first_of (region_for object.0 past) (Some region.0) else region_for object.0 past) (itself object.0)
    ∙ ap (λ z. first_of z (Some region.0)) none

pub region_shadowed : (region : RegionId) (new old : ObjectId) (past : List Event) → region_for new.0 past ≡ None
    → region_for new.0 (event.Shadowed region new old ∷ past) ≡ Some region.0
region_shadowed region new old past none =
    ap (λ b. if b then first_of (region_for new.0 past) (Some region.0) else region_for new.0 past) (itself new.0) ∙ ap (λ z. first_of z (Some region.0)) none

-- a shadow is on the host of its region
pub home_shadowed : (h : ℕ) (region : RegionId) (new old : ObjectId) (past : List Event) → region_for new.0 past ≡ None → home_of region.0 past ≡ Some h
    → object_home new.0 (event.Shadowed region new old ∷ past) ≡ Some h
home_shadowed h region new old past none home = ap (home_in (λ r. home_of r past)) (region_shadowed region new old past none) ∙ home

-- what has no home yet

region_later : (header : Header) (e : Event) (past : List Event) (r : ℕ) → next_region header (e ∷ past) ≤ r → next_region header past ≤ r
region_later header (event.RegionMade region object pages) past r high = omega (arith, high)
region_later header (event.RegionCopied region source offset pages) past r high = omega (arith, high)
region_later header (event.Delayed region source offset pages copy) past r high = omega (arith, high)
region_later header other past r high = high

object_later : (header : Header) (e : Event) (past : List Event) (o : ℕ) → next_object header (e ∷ past) ≤ o → next_object header past ≤ o
object_later header (event.RegionMade region object pages) past o high = omega (arith, high)
object_later header (event.Shadowed region new old) past o high = omega (arith, high)
object_later header (event.Delayed region source offset pages copy) past o high = omega (arith, high)
object_later header other past o high = high

regions_next : (header : Header) (outside : Outside) (e : Event) (past : List Event) (r : ℕ) → HasCause header outside e past
    → next_region header (e ∷ past) ≤ r → home_of r past ≡ None → home_of r (e ∷ past) ≡ None
regions_next header outside (event.Entered task address bytes region offset prot inherit) past r cause high none =
    let made = cause.1.made in
    let apart : (region.0 == r) ≡ false = unlike region.0 r (λ same. omega (arith, same, made, high)) in
    ap (λ b. if b then first_of (home_of r past) (host_of task.0 past) else home_of r past) apart ∙ none
regions_next header outside (event.RegionMade region object pages) past r cause high none =
    home_made r region object pages past (λ same. let number = cause.1.0 in omega (arith, same, number, high)) ∙ none
regions_next header outside other past r cause high none = none

objects_next : (header : Header) (outside : Outside) (e : Event) (past : List Event) (o : ℕ) → HasCause header outside e past
    → next_object header (e ∷ past) ≤ o → region_for o past ≡ None → region_for o (e ∷ past) ≡ None
objects_next header outside (event.RegionMade region object pages) past o cause high none =
    let number = cause.1.1 in
    let apart : (object.0 == o) ≡ false = unlike object.0 o (λ same. omega (arith, same, number, high)) in
    ap (λ b. if b then first_of (region_for o past) (Some region.0) else region_for o past) apart ∙ none
objects_next header outside (event.Shadowed region new old) past o cause high none =
    let number = cause.1.next in
    let apart : (new.0 == o) ≡ false = unlike new.0 o (λ same. omega (arith, same, number, high)) in
    ap (λ b. if b then first_of (region_for o past) (Some region.0) else region_for o past) apart ∙ none
objects_next header outside (event.Delayed new source offset pages copy) past o cause high none =
    let number = cause.1.new in
    let apart : (copy.0 == o) ≡ false = unlike copy.0 o (λ same. omega (arith, same, number, high)) in
    ap (λ b. if b then first_of (region_for o past) (Some source.0) else region_for o past) apart ∙ none
objects_next header outside other past o cause high none = none

-- a region that has a home is in use nowhere else

both : (a b : Bool) → (a && b) ≡ true → (a ≡ true) × (b ≡ true)
both true b is = (refl, is)
both false b is = absurd (let bad : false ≡ true = is in cc)

-- the first entry says where, and the others can't say otherwise
home_first : (header : Header) (g h r region : ℕ) (here : Bool) (b : Bool) (was x : Option ℕ) (past : List Event) → (region == r) ≡ b
    → ((not (r == region) || here) && in_use header g r past) ≡ true → (here ≡ true → x ≡ Some g)
    → (if b then first_of was x else was) ≡ Some h → (was ≡ Some h → in_use header g r past ≡ true → g ≡ h) → g ≡ h
home_first header g h r region here true (Some f) x past test used lives home stays =
    stays home (both (not (r == region) || here) (in_use header g r past) used).1
home_first header g h r region here true None x past test used lives home stays =
    let other : (r == region) ≡ true = grind (arith, nat_tests) in
    let first : (not (r == region) || here) ≡ true = (both (not (r == region) || here) (in_use header g r past) used).0 in
    let lives_here : here ≡ true = sym (ap (λ b. not b || here) other) ∙ first in
    same_some g h (sym (lives lives_here) ∙ home)
home_first header g h r region here false was x past test used lives home stays = stays home (both (not (r == region) || here) (in_use header g r past) used).1

-- a region that is made now has no home
new_homeless : (header : Header) (g h r n : ℕ) (b here : Bool) (past : List Event) → (r == n) ≡ b → n ≡ next_region header past → HaveHomes header past
    → (if b then here else in_use header g r past) ≡ true → home_of r past ≡ Some h
    → (in_use header g r past ≡ true → g ≡ h) → g ≡ h
new_homeless header g h r n true here past test number homes used home stays =
    let same : r ≡ n = grind (arith, nat_tests) in
    absurd (let bad : None ≡ Some h = sym (homes.regions r (omega (arith, same, number))) ∙ home in cc)
new_homeless header g h r n false here past test number homes used home stays = stays used

made_where : (header : Header) (g h r n : ℕ) (b c : Bool) (past : List Event) → (r == n) ≡ b → (n == r) ≡ c → n ≡ next_region header past
    → HaveHomes header past → (if b then made_here g past else in_use header g r past) ≡ true
    → (if c then first_of (home_of r past) (copying_host past) else home_of r past) ≡ Some h → g ≡ h
made_where header g h r n true true past test turned number homes used home =
    let same : r ≡ n = grind (arith, nat_tests) in
    let none : home_of r past ≡ None = homes.regions r (omega (arith, same, number)) in
    made_there g h past used (ap (λ x. first_of x (copying_host past)) (sym none) ∙ home)
made_where header g h r n false false past test turned number homes used home = homes.stay g h r used home
made_where header g h r n true false past test turned number homes used home = absurd (grind (arith, nat_tests))
made_where header g h r n false true past test turned number homes used home = absurd (grind (arith, nat_tests))

stay_next : (header : Header) (outside : Outside) (e : Event) (past : List Event) → HasCause header outside e past → HaveHomes header past → (g h r : ℕ)
    → in_use header g r (e ∷ past) ≡ true → home_of r (e ∷ past) ≡ Some h → g ≡ h
stay_next header outside (event.RegionMade new object pages) past cause homes g h r used home =
    made_where header g h r new.0 (r == new.0) (new.0 == r) past refl refl cause.1.0 homes used home
stay_next header outside (event.RegionCopied new source offset pages) past cause homes g h r used home =
    new_homeless header g h r new.0 (r == new.0) (in_use header g source.0 past) past refl cause.1.next homes used home (λ now. homes.stay g h r now home)
stay_next header outside (event.Delayed new source offset pages copy) past cause homes g h r used home =
    new_homeless header g h r new.0 (r == new.0) (in_use header g source.0 past) past refl cause.1.next homes used home (λ now. homes.stay g h r now home)
stay_next header outside (event.Entered task address bytes region offset prot inherit) past cause homes g h r used home =
    home_first header g h r region.0 (lives_on g task.0 past) (region.0 == r) (home_of r past) (host_of task.0 past) past refl used
    (on_host g (host_of task.0 past)) home (λ was now. homes.stay g h r now was)
stay_next header outside (event.Removed task address bytes) past cause homes g h r used home =
    homes.stay g h r (both (is_kept header r (event.Removed task address bytes ∷ past)) (in_use header g r past) used).1 home
stay_next header outside (event.TaskEnded task) past cause homes g h r used home =
    homes.stay g h r (both (is_kept header r (event.TaskEnded task ∷ past)) (in_use header g r past) used).1 home
stay_next header outside (event.Failed task object page) past cause homes g h r used home =
    homes.stay g h r (both (is_kept header r (event.Failed task object page ∷ past)) (in_use header g r past) used).1 home
stay_next header outside other past cause homes g h r used home = homes.stay g h r used home

-- a task of a host on which a region is in use gets an entry on it: there it is at home

pub home_used : (header : Header) (h : ℕ) (task : TaskId) (address bytes : ℕ) (region : RegionId) (offset : ℕ) (prot : Prot) (inherit : Inherit)
    (past : List Event) → HaveHomes header past → in_use header h region.0 past ≡ true → host_of task.0 past ≡ Some h
    → home_of region.0 (event.Entered task address bytes region offset prot inherit ∷ past) ≡ Some h
home_used header h task address bytes region offset prot inherit past homes used lives = by (home_of region.0 past) refl
  where
    by : (home : Option ℕ) → home_of region.0 past ≡ home → home_of region.0 (event.Entered task address bytes region offset prot inherit ∷ past) ≡ Some h
    by None none = home_entered h task address bytes region offset prot inherit past none lives
    by (Some g) some =
        home_stays region.0 g (event.Entered task address bytes region offset prot inherit) past some
        ∙ ap (λ (n : ℕ). Some n) (sym (homes.stay h g region.0 used some))

-- what is declared stays as it was

-- a file's region is in use everywhere until it has a home, and then there

-- it is another than one that is made
file_other : (header : Header) (r n : ℕ) (past : List Event) → is_file header r ≡ true → n ≡ next_region header past → (r == n) ≡ false
file_other header r n past file number =
    let less = file_named header r file in
    let more = named_regions header past in
    unlike r n (λ same. omega (arith, same, number, more, less))

-- and it is kept
file_kept : (header : Header) (r : ℕ) (e : Event) (past : List Event) → is_file header r ≡ true → is_kept header r (e ∷ past) ≡ true
file_kept header r e past file =
    let less : nat_lt r (named header) ≡ true = let small = file_named header r file in grind (arith, nat_tests) in
    ap (λ b. b || is_held header.size r (tasks (e ∷ past)) (e ∷ past)) less

-- on the host whose task gets the entry: the region's first, or one more
file_entered : (header : Header) (g h r : ℕ) (was x : Option ℕ) (past : List Event) → HaveHomes header past → is_file header r ≡ true → home_of r past ≡ was
    → x ≡ Some g → in_use header g r past ≡ true
    → (first_of was x ≡ None) ⊎ (first_of was x ≡ Some h) → (is_on h x ≡ true) × (in_use header h r past ≡ true)
file_entered header g h r None x past homes file was lives used (inl none) = absurd (let bad : Some g ≡ None = sym lives ∙ none in cc)
file_entered header g h r None x past homes file was lives used (inr first) =
    let same : g ≡ h = same_some g h (sym lives ∙ first) in
    (ap (is_on h) first ∙ on_own h, subst (λ (z : ℕ). in_use header z r past ≡ true) same used)
file_entered header g h r (Some own) x past homes file was lives used (inl none) = absurd (let bad : Some own ≡ None = none in cc)
file_entered header g h r (Some own) x past homes file was lives used (inr home) =
    let same : g ≡ h = homes.stay g h r used (was ∙ home) in
    (ap (is_on h) (lives ∙ ap Some same) ∙ on_own h, subst (λ (z : ℕ). in_use header z r past ≡ true) same used)

files_next : (header : Header) (outside : Outside) (e : Event) (past : List Event) → HasCause header outside e past → HaveHomes header past → (r h : ℕ)
    → is_file header r ≡ true
    → (home_of r (e ∷ past) ≡ None) ⊎ (home_of r (e ∷ past) ≡ Some h) → in_use header h r (e ∷ past) ≡ true
files_next header outside (event.RegionMade new object pages) past cause homes r h file home =
    let other : (r == new.0) ≡ false = file_other header r new.0 past file cause.1.0 in
    let turned : (new.0 == r) ≡ false = grind (arith, nat_tests) in
    let before : (home_of r past ≡ None) ⊎ (home_of r past ≡ Some h) =
    subst (λ (b : Bool). ((if b then first_of (home_of r past) (copying_host past) else home_of r past) ≡ None)
    ⊎ ((if b then first_of (home_of r past) (copying_host past) else home_of r past) ≡ Some h)) turned home in
    rw other (homes.files r h file before)
files_next header outside (event.RegionCopied new source offset pages) past cause homes r h file home =
    rw (file_other header r new.0 past file cause.1.next) (homes.files r h file home)
files_next header outside (event.Delayed new source offset pages copy) past cause homes r h file home =
    rw (file_other header r new.0 past file cause.1.next) (homes.files r h file home)
files_next header outside (event.Entered task address bytes region offset prot inherit) past cause homes r h file home = elim (eqb_tells r region.0) [
  | inl same ↦
      let turned : (region.0 == r) ≡ true = let is = same.1 in grind (arith, nat_tests) in
      let used : in_use header cause.1.host r past ≡ true =
      subst (λ (z : ℕ). in_use header cause.1.host z past ≡ true) (sym same.1) (cause.1.file (subst (λ (z : ℕ). is_file header z ≡ true) same.1 file)) in
      let after : (first_of (home_of r past) (host_of task.0 past) ≡ None) ⊎ (first_of (home_of r past) (host_of task.0 past) ≡ Some h) =
      subst (λ (b : Bool). ((if b then first_of (home_of r past) (host_of task.0 past) else home_of r past) ≡ None)
      ⊎ ((if b then first_of (home_of r past) (host_of task.0 past) else home_of r past) ≡ Some h)) turned home in
      let there = file_entered header cause.1.host h r (home_of r past) (host_of task.0 past) past homes file refl cause.1.lives used after in
      let lives : lives_on h task.0 past ≡ true = there.0 in
      rw (same.0, lives) there.1
  | inr apart ↦
      let turned : (region.0 == r) ≡ false = unlike region.0 r (λ is. apart.1 (sym is)) in
      let before : (home_of r past ≡ None) ⊎ (home_of r past ≡ Some h) =
      subst (λ (b : Bool). ((if b then first_of (home_of r past) (host_of task.0 past) else home_of r past) ≡ None)
      ⊎ ((if b then first_of (home_of r past) (host_of task.0 past) else home_of r past) ≡ Some h)) turned home in
      rw apart.0 (homes.files r h file before)
]
files_next header outside (event.Removed task address bytes) past cause homes r h file home =
    rw (file_kept header r (event.Removed task address bytes) past file) (homes.files r h file home)
files_next header outside (event.TaskEnded task) past cause homes r h file home =
    rw (file_kept header r (event.TaskEnded task) past file) (homes.files r h file home)
files_next header outside (event.Failed task object page) past cause homes r h file home =
    rw (file_kept header r (event.Failed task object page) past file) (homes.files r h file home)
files_next header outside other past cause homes r h file home = homes.files r h file home

whole_next : (header : Header) (outside : Outside) (e : Event) (past : List Event) → HasCause header outside e past → HaveHomes header past → (r : ℕ)
    → r < named header
    → region_of header r (e ∷ past) ≡ record { mark = false; top = r; shift = 0; pages = declared_pages header r }
whole_next header outside (event.RegionMade new object pages) past cause homes r declared =
    let number = cause.1.0 in
    let more = named_regions header past in
    let other : (r == new.0) ≡ false = unlike r new.0 (λ same. omega (arith, same, number, more, declared)) in
    rw other (homes.whole r declared)
whole_next header outside (event.RegionCopied new source offset pages) past cause homes r declared =
    let number = cause.1.next in
    let more = named_regions header past in
    let temporary = cause.1.temporary in
    let other : (r == new.0) ≡ false = unlike r new.0 (λ same. omega (arith, same, number, more, declared)) in
    let apart : (r == source.0) ≡ false = unlike r source.0 (λ same. omega (arith, same, temporary, declared)) in
    rw (other, apart) (homes.whole r declared)
whole_next header outside (event.Delayed new source offset pages copy) past cause homes r declared =
    let number = cause.1.next in
    let more = named_regions header past in
    let other : (r == new.0) ≡ false = unlike r new.0 (λ same. omega (arith, same, number, more, declared)) in
    rw other (homes.whole r declared)
whole_next header outside (event.Shadowed changed new old) past cause homes r declared =
    let marked = cause.1.marked in
    let other : (r == changed.0) ≡ false = unlike r changed.0 (λ same. absurd (let plain : (region_of header changed.0 past).mark ≡ false = ap
    (λ z. (region_of header z past).mark) (sym same) ∙ ap (λ z. z.mark) (homes.whole r declared) in let bad : false ≡ true = sym plain ∙ marked in cc)) in
    rw other (homes.whole r declared)
whole_next header outside (event.Unmarked changed) past cause homes r declared =
    let marked = cause.1.marked in
    let other : (r == changed.0) ≡ false = unlike r changed.0 (λ same. absurd (let plain : (region_of header changed.0 past).mark ≡ false = ap
    (λ z. (region_of header z past).mark) (sym same) ∙ ap (λ z. z.mark) (homes.whole r declared) in let bad : false ≡ true = sym plain ∙ marked in cc)) in
    rw other (homes.whole r declared)
whole_next header outside other past cause homes r declared = homes.whole r declared

-- what stands on nothing is no upper of a pair
not_upper : (header : Header) (o upper lower : ℕ) (past : List Event) → Merges header upper lower past → (backing_of header o past).backed ≡ false
    → (o == upper) ≡ false
not_upper header o upper lower past merges bare = unlike o upper (λ same. absurd (let bad : false ≡ true = sym bare
    ∙ (ap (λ z. (backing_of header z past).backed) same ∙ merges.pair.backed) in cc))

-- nor a file's newest copy
pub not_newest : (header : Header) (o file : ℕ) (past : List Event) → HaveHomes header past → (backing_of header o past).backed ≡ false
    → is_newest o (newest_copy file past) ≡ false
not_newest header o file past homes bare = by (newest_copy file past) refl
  where
    by : (x : Option ℕ) → newest_copy file past ≡ x → is_newest o x ≡ false
    by None is = refl
    by (Some copy) is = unlike o copy (λ same. absurd (let bad : false ≡ true = sym bare
        ∙ (ap (λ z. (backing_of header z past).backed) same ∙ ap (λ (b : Backing). b.backed) (homes.copies file copy is).stands) in cc))

bare_next : (header : Header) (outside : Outside) (e : Event) (past : List Event) → HasCause header outside e past → HaveHomes header past → (o : ℕ)
    → o < named header → (backing_of header o (e ∷ past)).backed ≡ false
bare_next header outside (event.Shadowed changed new old) past cause homes o declared =
    let number = cause.1.next in
    let more = named_objects header past in
    let other : (o == new.0) ≡ false = unlike o new.0 (λ same. omega (arith, same, number, more, declared)) in
    rw other (homes.bare o declared)
bare_next header outside (event.Merged upper lower) past cause homes o declared =
    rw (not_upper header o upper.0 lower.0 past cause.1 (homes.bare o declared)) (homes.bare o declared)
bare_next header outside (event.Delayed new source offset pages copy) past cause homes o declared =
    let number = cause.1.new in
    let more = named_objects header past in
    let other : (o == copy.0) ≡ false = unlike o copy.0 (λ same. omega (arith, same, number, more, declared)) in
    rw (other, not_newest header o source.0 past homes (homes.bare o declared)) (homes.bare o declared)
bare_next header outside other past cause homes o declared = homes.bare o declared

-- an object that isn't made yet stands on nothing
unmade_next : (header : Header) (outside : Outside) (e : Event) (past : List Event) → HasCause header outside e past → HaveHomes header past → (o : ℕ)
    → next_object header (e ∷ past) ≤ o → (backing_of header o (e ∷ past)).backed ≡ false
unmade_next header outside (event.RegionMade region object pages) past cause homes o high = homes.unmade o (omega (arith, high))
unmade_next header outside (event.Shadowed changed new old) past cause homes o high =
    let number = cause.1.next in
    let other : (o == new.0) ≡ false = unlike o new.0 (λ same. omega (arith, same, number, high)) in
    rw other (homes.unmade o (omega (arith, high)))
unmade_next header outside (event.Merged upper lower) past cause homes o high =
    rw (not_upper header o upper.0 lower.0 past cause.1 (homes.unmade o high)) (homes.unmade o high)
unmade_next header outside (event.Delayed new source offset pages copy) past cause homes o high =
    let number = cause.1.new in
    let bare = homes.unmade o (omega (arith, high)) in
    let other : (o == copy.0) ≡ false = unlike o copy.0 (λ same. omega (arith, same, number, high)) in
    rw (other, not_newest header o source.0 past homes bare) bare
unmade_next header outside other past cause homes o high = homes.unmade o high

-- a slow copy fills the region that was made for it
fills_next : (header : Header) (outside : Outside) (e : Event) (past : List Event) → HasCause header outside e past → HaveHomes header past
    → (task : ℕ) (target : Target) → copy_target task (e ∷ past) ≡ Some target → named header ≤ target.region
fills_next header outside (event.BegunCopy owner address bytes to) past cause homes task target is = by_test (owner.0 == task) is
  where
    by_test : (b : Bool) → (if b then None else copy_target task past) ≡ Some target → named header ≤ target.region
    by_test true none = absurd (let bad : None ≡ Some target = none in cc)
    by_test false was = homes.fills task target was
fills_next header outside (event.RegionMade region object pages) past cause homes task target is = by_test (begins_copy task past) is
  where
    by_test : (b : Bool) → (if b then Some (record { region = region.0; object = object.0 }) else copy_target task past) ≡ Some target
        → named header ≤ target.region
    by_test true now =
        let same : region.0 ≡ target.region = ap (λ z. (unwrap_or z target).region) now in
        let number = cause.1.0 in
        let more = named_regions header past in
        omega (arith, same, number, more)
    by_test false was = homes.fills task target was
fills_next header outside other past cause homes task target is = homes.fills task target is

-- the object that a slow copy fills was made, and stands on nothing

target_made_next : (header : Header) (outside : Outside) (e : Event) (past : List Event) → HasCause header outside e past → HaveHomes header past
    → (task : ℕ) (target : Target) → copy_target task (e ∷ past) ≡ Some target → target.object < next_object header (e ∷ past)
target_made_next header outside (event.BegunCopy owner address bytes to) past cause homes task target is = by_test (owner.0 == task) is
  where
    by_test : (b : Bool) → (if b then None else copy_target task past) ≡ Some target → target.object < next_object header past
    by_test true none = absurd (let bad : None ≡ Some target = none in cc)
    by_test false was = homes.target_made task target was
target_made_next header outside (event.RegionMade region object pages) past cause homes task target is = by_test (begins_copy task past) is
  where
    by_test : (b : Bool) → (if b then Some (record { region = region.0; object = object.0 }) else copy_target task past) ≡ Some target
        → target.object < next_object header past + 1
    by_test true now =
        let same : object.0 ≡ target.object = ap (λ z. (unwrap_or z target).object) now in
        let number = cause.1.1 in
        omega (arith, same, number)
    by_test false was = let less = homes.target_made task target was in omega (arith, less)
target_made_next header outside (event.Shadowed changed new old) past cause homes task target is =
    let less = homes.target_made task target is in omega (arith, less)
target_made_next header outside (event.Delayed new source offset pages copy) past cause homes task target is =
    let less = homes.target_made task target is in omega (arith, less)
target_made_next header outside other past cause homes task target is = homes.target_made task target is

target_bare_next : (header : Header) (outside : Outside) (e : Event) (past : List Event) → HasCause header outside e past → HaveHomes header past
    → (task : ℕ) (target : Target) → copy_target task (e ∷ past) ≡ Some target → (backing_of header target.object (e ∷ past)).backed ≡ false
target_bare_next header outside (event.BegunCopy owner address bytes to) past cause homes task target is = by_test (owner.0 == task) is
  where
    by_test : (b : Bool) → (if b then None else copy_target task past) ≡ Some target → (backing_of header target.object past).backed ≡ false
    by_test true none = absurd (let bad : None ≡ Some target = none in cc)
    by_test false was = homes.target_bare task target was
target_bare_next header outside (event.RegionMade region object pages) past cause homes task target is = by_test (begins_copy task past) is
  where
    by_test : (b : Bool) → (if b then Some (record { region = region.0; object = object.0 }) else copy_target task past) ≡ Some target
        → (backing_of header target.object past).backed ≡ false
    by_test true now =
        let same : object.0 ≡ target.object = ap (λ z. (unwrap_or z target).object) now in
        let number = cause.1.1 in
        homes.unmade target.object (omega (arith, same, number))
    by_test false was = homes.target_bare task target was
target_bare_next header outside (event.Shadowed changed new old) past cause homes task target is =
    let number = cause.1.next in
    let less = homes.target_made task target is in
    let other : (target.object == new.0) ≡ false = unlike target.object new.0 (λ same. omega (arith, same, number, less)) in
    ap (λ b. (over b (region_of header changed.0 past) (backing_of header target.object past)).backed) other ∙ homes.target_bare task target is
target_bare_next header outside (event.Merged upper lower) past cause homes task target is =
    let bare = homes.target_bare task target is in
    let other : (target.object == upper.0) ≡ false = unlike target.object upper.0
    (λ same. (let bad : false ≡ true = sym bare ∙ (ap (λ z. (backing_of header z past).backed) same ∙ cause.1.pair.backed) in cc)) in
    ap (λ b. (joined b (backing_of header lower.0 past) (backing_of header target.object past)).backed) other ∙ bare
target_bare_next header outside (event.Delayed new source offset pages copy) past cause homes task target is =
    let number = cause.1.new in
    let less = homes.target_made task target is in
    let bare = homes.target_bare task target is in
    let other : (target.object == copy.0) ≡ false = unlike target.object copy.0 (λ same. omega (arith, same, number, less)) in
    let plain = not_newest header target.object source.0 past homes bare in
    ap (λ b. (pushed b (is_newest target.object (newest_copy source.0 past)) source.0 copy.0 (backing_of header target.object past)).backed) other
    ∙ (ap (λ b. (pushed false b source.0 copy.0 (backing_of header target.object past)).backed) plain ∙ bare)
target_bare_next header outside other past cause homes task target is = homes.target_bare task target is

-- the newest copies of files were made, and stand on them

pub copy_made : (header : Header) (file copy : ℕ) (past : List Event) → HaveHomes header past → newest_copy file past ≡ Some copy
    → copy < next_object header past
copy_made header file copy past homes is = elim (cases_lt copy (next_object header past)) [
  | inl less ↦ less
  | inr high ↦ absurd (let bad : false ≡ true = sym (homes.unmade copy high) ∙ ap (λ (b : Backing). b.backed) (homes.copies file copy is).stands in cc)
]

pub copy_temporary : (header : Header) (file copy : ℕ) (past : List Event) → HaveHomes header past → newest_copy file past ≡ Some copy → named header ≤ copy
copy_temporary header file copy past homes is = elim (cases_lt copy (named header)) [
  | inl declared ↦ absurd (let bad : false ≡ true = sym (homes.bare copy declared) ∙ ap (λ (b : Backing). b.backed) (homes.copies file copy is).stands in cc)
  | inr temporary ↦ temporary
]

abbrev CopyNow : Header → List Event → ℕ → ℕ → Type 0
CopyNow header past file copy = IsCopyOf header (λ o. region_for o past) (λ o. backing_of header o past) file copy

-- one more copy of a file
copy_new : (header : Header) (region source : RegionId) (offset pages : ℕ) (copy : ObjectId) (past : List Event) → HaveHomes header past
    → copy.0 ≡ next_object header past → is_file header source.0 ≡ true
    → CopyNow header (event.Delayed region source offset pages copy ∷ past) source.0 copy.0
copy_new header region source offset pages copy past homes number file = record {
  file = file;
  made =
      ap (λ b. if b then first_of (region_for copy.0 past) (Some source.0) else region_for copy.0 past) (itself copy.0)
      ∙ ap (λ z. first_of z (Some source.0)) (homes.objects copy.0 (omega (arith, number)));
  stands =
      ap (λ b. pushed b (is_newest copy.0 (newest_copy source.0 past)) source.0 copy.0 (backing_of header copy.0 past)) (itself copy.0);
}

-- another file's stands where it stood
copy_apart : (header : Header) (region source : RegionId) (offset pages : ℕ) (copy : ObjectId) (past : List Event) → HaveHomes header past
    → copy.0 ≡ next_object header past → (file other : ℕ) → (file == source.0) ≡ false → newest_copy file past ≡ Some other
    → CopyNow header (event.Delayed region source offset pages copy ∷ past) file other
copy_apart header region source offset pages copy past homes number file other apart is =
    let was = homes.copies file other is in
    let less = copy_made header file other past homes is in
    let old : (other == copy.0) ≡ false = unlike other copy.0 (λ same. omega (arith, same, number, less)) in
    record {
      file = was.file;
      made = region_stays other file (event.Delayed region source offset pages copy) past was.made;
      stands =
          ap (λ b. pushed b (is_newest other (newest_copy source.0 past)) source.0 copy.0 (backing_of header other past)) old
          ∙ (ap (λ b. pushed false b source.0 copy.0 (backing_of header other past)) (not_its was.made (newest_copy source.0 past) refl) ∙ was.stands);
    }
  where
    not_its : region_for other past ≡ Some file → (x : Option ℕ) → newest_copy source.0 past ≡ x → is_newest other x ≡ false
    not_its made None none = refl
    not_its made (Some newest) some = unlike other newest (λ same. absurd (let one : file ≡ source.0 = same_some file source.0 (sym made
        ∙ (ap (λ z. region_for z past) same ∙ (homes.copies source.0 newest some).made)) in
        let bad : true ≡ false = sym (itself source.0) ∙ (ap (λ z. z == source.0) (sym one) ∙ apart) in cc))

copies_next : (header : Header) (outside : Outside) (e : Event) (past : List Event) → HasCause header outside e past → HaveHomes header past
    → (file copy : ℕ) → newest_copy file (e ∷ past) ≡ Some copy → CopyNow header (e ∷ past) file copy
copies_next header outside (event.Delayed region source offset pages new) past cause homes file copy is = by_test (file == source.0) refl is
  where
    by_test : (b : Bool) → (file == source.0) ≡ b → (if b then Some new.0 else newest_copy file past) ≡ Some copy
        → CopyNow header (event.Delayed region source offset pages new ∷ past) file copy
    by_test true same now =
        let one : source.0 ≡ file = grind (arith, nat_tests) in
        subst (λ (z : ℕ). CopyNow header (event.Delayed region source offset pages new ∷ past) z copy) one
        (subst (λ (z : ℕ). CopyNow header (event.Delayed region source offset pages new ∷ past) source.0 z) (same_some new.0 copy now)
        (copy_new header region source offset pages new past homes cause.1.new cause.1.file))
    by_test false apart was = copy_apart header region source offset pages new past homes cause.1.new file copy apart was
copies_next header outside (event.Shadowed changed new old) past cause homes file copy is =
    let was = homes.copies file copy is in
    let number = cause.1.next in
    let less = copy_made header file copy past homes is in
    let other : (copy == new.0) ≡ false = unlike copy new.0 (λ same. omega (arith, same, number, less)) in
    record {
      file = was.file;
      made = region_stays copy file (event.Shadowed changed new old) past was.made;
      stands = ap (λ b. over b (region_of header changed.0 past) (backing_of header copy past)) other ∙ was.stands;
    }
copies_next header outside (event.Merged upper lower) past cause homes file copy is =
    let was = homes.copies file copy is in
    let pair = cause.1.pair in
    let temporary = pair.temporary in
    let declared = file_named header file was.file in
    let other : (copy == upper.0) ≡ false = unlike copy upper.0 (λ same. (let one : file ≡ lower.0 = ap (λ (b : Backing). b.under) (sym was.stands)
    ∙ (ap (λ z. (backing_of header z past).under) same ∙ pair.under) in omega (arith, one, temporary, declared))) in
    record {
      file = was.file;
      made = region_stays copy file (event.Merged upper lower) past was.made;
      stands = ap (λ b. joined b (backing_of header lower.0 past) (backing_of header copy past)) other ∙ was.stands;
    }
copies_next header outside e past cause homes file copy is =
    let was = homes.copies file copy is in record { file = was.file; made = region_stays copy file e past was.made; stands = was.stands }

-- and each copy stands on a declared object or another copy

abbrev LinedNow : Header → List Event → ℕ → Type 0
LinedNow header past o = IsOverCopy header (λ c. is_copy c past) (backing_of header o past)

-- a copy was made
pub copied_low : (header : Header) (o : ℕ) (past : List Event) → HaveHomes header past → is_copy o past ≡ true → o < next_object header past
copied_low header o past homes is = elim (cases_lt o (next_object header past)) [
  | inl less ↦ less
  | inr high ↦ absurd (let bad : false ≡ true = sym (homes.unmade o high) ∙ (homes.lined o is).backed in cc)
]

-- one copy more, and the newest until then stands on it
lined_delayed : (header : Header) (region source : RegionId) (offset pages : ℕ) (new : ObjectId) (past : List Event) → HaveHomes header past
    → source.0 < named header → (o : ℕ) (this newest : Bool) → (o == new.0) ≡ this → is_newest o (newest_copy source.0 past) ≡ newest
    → (this || is_copy o past) ≡ true → IsOverCopy header (λ c. c == new.0 || is_copy c past) (pushed this newest source.0 new.0 (backing_of header o past))
lined_delayed header region source offset pages new past homes low o true newest this its is = record { backed = refl; over = inl low }
lined_delayed header region source offset pages new past homes low o false true this its is =
    record { backed = refl; over = inr (ap (λ b. b || is_copy new.0 past) (itself new.0)) }
lined_delayed header region source offset pages new past homes low o false false this its is =
    let was = homes.lined o is in
    record {
      backed = was.backed;
      over = elim was.over [
        | inl declared ↦ inl declared
        | inr copy ↦ inr (or_right ((backing_of header o past).under == new.0) (is_copy (backing_of header o past).under past) copy)
      ];
    }

lined_next : (header : Header) (outside : Outside) (e : Event) (past : List Event) → HasCause header outside e past → HaveHomes header past
    → (o : ℕ) → is_copy o (e ∷ past) ≡ true → LinedNow header (e ∷ past) o
lined_next header outside (event.Delayed region source offset pages new) past cause homes o is =
    lined_delayed header region source offset pages new past homes (file_named header source.0 cause.1.file) o _ _ refl refl is
lined_next header outside (event.Shadowed changed new old) past cause homes o is =
    let number = cause.1.next in
    let less = copied_low header o past homes is in
    let other : (o == new.0) ≡ false = unlike o new.0 (λ same. omega (arith, same, number, less)) in
    subst (λ (z : Bool). IsOverCopy header (λ c. is_copy c past) (over z (region_of header changed.0 past) (backing_of header o past))) (sym other)
    (homes.lined o is)
lined_next header outside (event.Merged upper lower) past cause homes o is =
    let was = homes.lined o is in
    let pair = cause.1.pair in
    let temporary = pair.temporary in
    let other : (o == upper.0) ≡ false = unlike o upper.0 (λ same. let its : (backing_of header o past).under ≡ lower.0 =
    ap (λ z. (backing_of header z past).under) same ∙ pair.under in elim was.over [
      | inl low ↦ omega (arith, low, its, temporary)
      | inr copy ↦ let bad : false ≡ true = sym pair.plain ∙ (ap (λ z. is_copy z past) (sym its) ∙ copy) in cc
    ]) in
    subst (λ (z : Bool). IsOverCopy header (λ c. is_copy c past) (joined z (backing_of header lower.0 past) (backing_of header o past))) (sym other) was
lined_next header outside e past cause homes o is = homes.lined o is

-- what has a home was made, whatever is added with its cause
pub homes_next : (header : Header) (outside : Outside) (e : Event) (past : List Event) → HasCause header outside e past → HaveHomes header past
    → HaveHomes header (e ∷ past)
homes_next header outside e past cause homes =
    record {
      regions = λ r high. regions_next header outside e past r cause high (homes.regions r (region_later header e past r high));
      objects = λ o high. objects_next header outside e past o cause high (homes.objects o (object_later header e past o high));
      stay = stay_next header outside e past cause homes;
      files = files_next header outside e past cause homes;
      whole = whole_next header outside e past cause homes;
      bare = bare_next header outside e past cause homes;
      unmade = unmade_next header outside e past cause homes;
      fills = fills_next header outside e past cause homes;
      target_made = target_made_next header outside e past cause homes;
      target_bare = target_bare_next header outside e past cause homes;
      copies = copies_next header outside e past cause homes;
      lined = lined_next header outside e past cause homes;
    }

pub homes_start : (header : Header) → HaveHomes header []
homes_start header =
    record {
      regions = λ r high. refl;
      objects = λ o high. refl;
      stay = λ g h r used home. absurd (let bad : None ≡ Some h = home in cc);
      files = λ r h file home. file;
      whole = λ r declared. refl;
      bare = λ o declared. refl;
      unmade = λ o high. refl;
      fills = λ task target is. absurd (let bad : None ≡ Some target = is in cc);
      target_made = λ task target is. absurd (let bad : None ≡ Some target = is in cc);
      target_bare = λ task target is. absurd (let bad : None ≡ Some target = is in cc);
      copies = λ file copy is. absurd (let bad : None ≡ Some copy = is in cc);
      lined = λ copy is. absurd (let bad : false ≡ true = is in cc);
    }
