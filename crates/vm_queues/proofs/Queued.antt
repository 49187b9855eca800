-- Which pages are on a list after each change, and that the victim is on one.
use Rattle.std.proofs.Common.{ℕ, ◌≡◌, ◌==◌, ◌||◌, Bool, true, false, List, [], ◌∷◌, ◌++◌, drop, map, take, refl, sym, ◌∙◌, ap, Option, Some, None, arith, inl, inr}
use Rattle.std.proofs.lemmas.Bool.{cases_eq}
use Rattle.std.proofs.lemmas.Bool.Decides.{nat_tests}
use Rattle.std.proofs.lemmas.List.{append_assoc, map-append, take-append-drop}
use Rattle.std.specs.Prelude.{MatchOption, if◌then◌else◌}
use Rattle.vm_base.specs.declared.ids.FrameNo.{FrameNo}
use Rattle.vm_queues.specs.Queues.{GainsPage, KeepsPages, LosesPage, Page, Queues, SkipsSame, added, balanced, cleared, first_left}
use Rattle.vm_queues.specs.Queues.{from_unreferenced, has_page, is_queued, is_skipped, marked, new_page, pages_except, queues_except, referenced_front, shortage, spared}
use Rattle.vm_queues.specs.Queues.{victim_frame, with_deactivated, with_reference}
use Rattle.vm_queues.proofs.Balance.{first_skipped, queues}

has_append : (xs ys : List Page) (f : ℕ) → has_page (xs ++ ys) f ≡ (has_page xs f || has_page ys f)
has_append [] ys f = refl
has_append (x ∷ xs) ys f = let rest = has_append xs ys f in grind (arith, nat_tests)

has_cleared : (xs : List Page) (f : ℕ) → has_page (map cleared xs) f ≡ has_page xs f
has_cleared [] f = refl
has_cleared (x ∷ xs) f = rw (has_cleared xs f) refl

has_moved : (k : ℕ) (a : List Page) (f : ℕ) → has_page (map cleared (take k a) ++ drop k a) f ≡ has_page a f
has_moved k a f =
    has_append (map cleared (take k a)) (drop k a) f
    ∙ ap (λ b. b || has_page (drop k a) f) (has_cleared (take k a) f)
    ∙ sym (has_append (take k a) (drop k a) f)
    ∙ ap (λ z. has_page z f) (take-append-drop k a)

pub queued_moved : (k : ℕ) (q : Queues) → KeepsPages q (with_deactivated k q)
queued_moved k q = λ f.
    ap (λ z. has_page z f) (append_assoc q.inactive (map cleared (take k q.active)) (drop k q.active))
    ∙ has_append q.inactive (map cleared (take k q.active) ++ drop k q.active) f
    ∙ ap (λ b. has_page q.inactive f || b) (has_moved k q.active f)
    ∙ sym (has_append q.inactive q.active f)

or_assoc : (x y z : Bool) → (x || (y || z)) ≡ ((x || y) || z)
or_assoc true y z = refl
or_assoc false y z = refl

front_cons : (test : Bool) (x : Page) (xs : List Page) (f : ℕ) → x.referenced ≡ test
    → has_page xs f ≡ (has_page (referenced_front xs) f || has_page (from_unreferenced xs) f)
    → has_page (x ∷ xs) f ≡ (has_page (referenced_front (x ∷ xs)) f || has_page (from_unreferenced (x ∷ xs)) f)
front_cons true x xs f is rest =
    rw is (ap (λ b. (x.frame == f) || b) rest ∙ or_assoc (x.frame == f) (has_page (referenced_front xs) f) (has_page (from_unreferenced xs) f))
front_cons false x xs f is rest = rw is refl

has_front : (xs : List Page) (f : ℕ) → has_page xs f ≡ (has_page (referenced_front xs) f || has_page (from_unreferenced xs) f)
has_front [] f = refl
has_front (x ∷ xs) f = front_cons x.referenced x xs f refl (has_front xs f)

or_turn : (x y z : Bool) → (x || (y || z)) ≡ ((z || x) || y)
or_turn true y true = refl
or_turn true y false = refl
or_turn false true true = refl
or_turn false true false = refl
or_turn false false true = refl
or_turn false false false = refl

pub queued_spared : (q : Queues) → KeepsPages q (spared q)
queued_spared q = λ f.
    let a = q.active in
    let front = referenced_front q.inactive in
    let rest = from_unreferenced q.inactive in
    let turned = queues (a ++ map cleared front) rest q.frames in
    queued_moved (shortage turned) turned f
    ∙ has_append rest (a ++ map cleared front) f
    ∙ ap (λ b. has_page rest f || b) (has_append a (map cleared front) f ∙ ap (λ b. has_page a f || b) (has_cleared front f))
    ∙ or_turn (has_page rest f) (has_page a f) (has_page front f)
    ∙ ap (λ b. b || has_page a f) (sym (has_front q.inactive f))
    ∙ sym (has_append q.inactive a f)

pub queued_balanced : (old new : Queues) → new ≡ balanced old → KeepsPages old new
queued_balanced old new is = λ f. ap (λ q. is_queued q f) is ∙ queued_moved (shortage old) old f

pub queued_victim : (old new : Queues) → new ≡ spared (balanced old) → KeepsPages old new
queued_victim old new is = λ f. ap (λ q. is_queued q f) is ∙ queued_spared (balanced old) f ∙ queued_moved (shortage old) old f

or_last : (x y : Bool) → (x || (y || false)) ≡ (if y then true else x)
or_last true true = refl
or_last true false = refl
or_last false true = refl
or_last false false = refl

pub queued_added : (f : ℕ) (q new : Queues) → new ≡ added f q → GainsPage f q new
queued_added f q new is = λ other.
    ap (λ r. is_queued r other) is
    ∙ ap (λ z. has_page z other) (sym (append_assoc q.inactive q.active (new_page f ∷ [])))
    ∙ has_append (q.inactive ++ q.active) (new_page f ∷ []) other
    ∙ or_last (has_page (q.inactive ++ q.active) other) (f == other)

has_marked : (f : ℕ) (xs : List Page) (other : ℕ) → has_page (map (marked f) xs) other ≡ has_page xs other
has_marked f [] other = refl
has_marked f (x ∷ xs) other = rw (has_marked f xs other) refl

pub queued_touched : (f : ℕ) (q new : Queues) → new ≡ with_reference f q → KeepsPages q new
queued_touched f q new is = λ other.
    ap (λ r. is_queued r other) is
    ∙ ap (λ z. has_page z other) (sym (map-append (marked f) q.inactive q.active))
    ∙ has_marked f (q.inactive ++ q.active) other

has_without : (f : ℕ) (xs : List Page) (other : ℕ) → has_page (pages_except f xs) other ≡ (if f == other then false else has_page xs other)
has_without f [] other = grind (arith, nat_tests)
has_without f (x ∷ xs) other = let rest = has_without f xs other in grind (arith, nat_tests)

neither : (test x y : Bool) → ((if test then false else x) || (if test then false else y)) ≡ (if test then false else (x || y))
neither true x y = refl
neither false x y = refl

pub queued_removed : (f : ℕ) (q new : Queues) → new ≡ queues_except f q → LosesPage f q new
queued_removed f q new is = λ other.
    let test = f == other in
    ap (λ r. is_queued r other) is
    ∙ has_append (pages_except f q.inactive) (pages_except f q.active) other
    ∙ ap (λ b. b || has_page (pages_except f q.active) other) (has_without f q.inactive other)
    ∙ ap (λ b. (if test then false else has_page q.inactive other) || b) (has_without f q.active other)
    ∙ neither test (has_page q.inactive other) (has_page q.active other)
    ∙ ap (λ b. if test then false else b) (sym (has_append q.inactive q.active other))

none_left : (spares : ℕ → Bool) (xs : List Page) (f : ℕ) → first_left spares xs ≡ None → has_page xs f ≡ true → spares f ≡ true
none_left spares [] f is there = absurd (cc)
none_left spares (x ∷ xs) f is there = none_cons (spares x.frame) spares x xs f refl (none_left spares xs f) is there
  where
    none_cons : (test : Bool) (spares : ℕ → Bool) (x : Page) (xs : List Page) (f : ℕ) → spares x.frame ≡ test
        → (first_left spares xs ≡ None → has_page xs f ≡ true → spares f ≡ true) → first_left spares (x ∷ xs) ≡ None → has_page (x ∷ xs) f ≡ true
        → spares f ≡ true
    none_cons true spares x xs f is rest none there =
        let behind : first_left spares xs ≡ None = sym (ap (λ (b : Bool). if b then first_left spares xs else Some (record { 0 = x.frame })) is) ∙ none in
        elim (cases_eq x.frame f) [
          | inl same ↦ ap spares (sym same) ∙ is
          | inr apart ↦ rest behind (let other : (x.frame == f) ≡ false = grind (arith, nat_tests) in sym (ap (λ b. b || has_page xs f) other) ∙ there)
        ]
    none_cons false spares x xs f is rest none there =
        let bad : Some (record { 0 = x.frame }) ≡ None = sym (ap (λ (b : Bool). if b then first_left spares xs else Some (record { 0 = x.frame })) is) ∙ none in
        absurd (cc)

abbrev frame_or : Option FrameNo → ℕ → ℕ
frame_or None n = n
frame_or (Some f) n = f.0

-- on the list, and not spared
abbrev Picked : (ℕ → Bool) → List Page → ℕ → Type 0
Picked spares xs f = (has_page xs f ≡ true) × (spares f ≡ false)

picked_cons : (test : Bool) (spares : ℕ → Bool) (x : Page) (xs : List Page) (f : FrameNo) → spares x.frame ≡ test
    → (first_left spares xs ≡ Some f → Picked spares xs f.0) → first_left spares (x ∷ xs) ≡ Some f → Picked spares (x ∷ xs) f.0
picked_cons true spares x xs f is rest some =
    let behind = rest (sym (ap (λ (b : Bool). if b then first_left spares xs else Some (record { 0 = x.frame })) is) ∙ some) in
    let there = behind.0 in
    (grind (arith, nat_tests, there), behind.1)
picked_cons false spares x xs f is rest some =
    let found : Some (record { 0 = x.frame }) ≡ Some f = sym (ap (λ (b : Bool). if b then first_left spares xs else Some (record { 0 = x.frame })) is)
    ∙ some in
    let same : x.frame ≡ f.0 = ap (λ (o : Option FrameNo). frame_or o x.frame) found in
    (grind (arith, nat_tests, same), ap spares (sym same) ∙ is)

picked : (spares : ℕ → Bool) (xs : List Page) (f : FrameNo) → first_left spares xs ≡ Some f → Picked spares xs f.0
picked spares [] f some = absurd (cc)
picked spares (x ∷ xs) f some = picked_cons (spares x.frame) spares x xs f refl (picked spares xs f) some

-- what is chosen stands on a list, and isn't spared
pub chosen_left : (spares : ℕ → Bool) (q old : Queues) (o : Option FrameNo) → o ≡ first_left spares (q.inactive ++ q.active) → KeepsPages old q
    → MatchOption o ((f : ℕ) → is_queued old f ≡ true → spares f ≡ true) (λ f. (is_queued old f.0 ≡ true) × (spares f.0 ≡ false))
chosen_left spares q old None is same = λ f there. none_left spares (q.inactive ++ q.active) f (sym is) (same f ∙ there)
chosen_left spares q old (Some f) is same =
    let stands = picked spares (q.inactive ++ q.active) f (sym is) in
    (sym (same f.0) ∙ stands.0, stands.1)

pub chosen_skipped : (skip : List FrameNo) (q : Queues) → first_left (is_skipped skip) (q.inactive ++ q.active) ≡ victim_frame skip q
chosen_skipped skip q = first_skipped skip (is_skipped skip) (q.inactive ++ q.active) (λ f there. refl)

-- of the frames on the lists, those alone are skipped that are spared
pub chosen_same : (skip : List FrameNo) (spares : ℕ → Bool) (q old : Queues) → KeepsPages old q → SkipsSame skip spares old
    → first_left spares (q.inactive ++ q.active) ≡ victim_frame skip q
chosen_same skip spares q old keeps same = first_skipped skip spares (q.inactive ++ q.active) (λ f there. same f (sym (keeps f) ∙ there))
