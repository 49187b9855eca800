-- A list of linked frames: what a frame at its back, and one taken out of it, change in the links.
use Rattle.std.proofs.Common.{ℕ, zero, suc, ◌≡◌, ◌+◌, ◌-◌, ◌<◌, ◌==◌, Bool, true, false, List, [], ◌∷◌, ◌++◌, length, Option, Some, None, refl, sym, ◌∙◌, ap}
use Rattle.std.proofs.Common.{arith, length-append}
use Rattle.std.proofs.lemmas.Bool.Decides.{nat_tests}
use Rattle.std.specs.Prelude.{if◌then◌else◌}
use Rattle.vm_base.specs.declared.ids.FrameNo.{FrameNo}
use Rattle.vm_queues.specs.Kept.{AreEnds, FramesAreApart, IsBelow, ends_without, has_none, is_frame, last_behind, put_link, with_after, with_back, with_before}
use Rattle.vm_queues.specs.Links.{along, first_frame, link_behind, neither_link}
use Rattle.vm_queues.specs.Queues.{is_skipped}
use Rattle.vm_queues.specs.declared.link.Link.{Link}
use Rattle.vm_queues.specs.declared.link.OnList.{OnList}
use Rattle.vm_queues.specs.declared.links.Ends.{Ends}
use Rattle.vm_queues.proofs.Apart.{apart_left, same_number, skipped_append, stands}

abbrev first_or : List FrameNo → Option FrameNo → Option FrameNo
first_or [] after = after
first_or (f ∷ fs) after = Some f

-- the link of a frame among these, behind which that one comes
abbrev pub linked : OnList → Option FrameNo → List FrameNo → Option FrameNo → Link → ℕ → Link
linked list before [] after other f = other
linked list before (g ∷ gs) after other f =
    if g.0 == f then record { list = list; before = before; after = first_or gs after } else linked list (Some g) gs after other f

first_or_none : (fs : List FrameNo) → first_or fs None ≡ first_frame fs
first_or_none [] = refl
first_or_none (f ∷ fs) = refl

pub plain : (list : OnList) (before : Option FrameNo) (fs : List FrameNo) (other : Link) (f : ℕ)
    → link_behind list before fs other f ≡ linked list before fs None other f
plain list before [] other f = refl
plain list before (g ∷ gs) other f = rw (first_or_none gs, plain list (Some g) gs other f) refl

first_joined : (xs ys : List FrameNo) (after : Option FrameNo) → first_or (xs ++ ys) after ≡ first_or xs (first_or ys after)
first_joined [] ys after = refl
first_joined (x ∷ xs) ys after = refl

joined : (list : OnList) (before : Option FrameNo) (xs ys : List FrameNo) (after : Option FrameNo) (other : Link) (f : ℕ)
    → linked list before (xs ++ ys) after other f ≡ linked list before xs (first_or ys after) (linked list (last_behind before xs) ys after other f) f
joined list before [] ys after other f = refl
joined list before (x ∷ xs) ys after other f = rw (first_joined xs ys after, joined list (Some x) xs ys after other f) refl

pub not_there : (list : OnList) (before : Option FrameNo) (fs : List FrameNo) (after : Option FrameNo) (other : Link) (f : ℕ) → is_skipped fs f ≡ false
    → linked list before fs after other f ≡ other
not_there list before [] after other f none = refl
not_there list before (g ∷ gs) after other f none =
    let no : (g.0 == f) ≡ false = grind (arith, nat_tests) in
    let others : is_skipped gs f ≡ false = grind (arith, nat_tests) in
    rw no (not_there list (Some g) gs after other f others)

-- a frame on a list has a link of this list
list_step : (test : Bool) (list : OnList) (before : Option FrameNo) (g : FrameNo) (gs : List FrameNo) (after : Option FrameNo) (other : Link) (f : ℕ)
    → (g.0 == f) ≡ test
    → (linked list (Some g) gs after other f).list ≡ (if is_skipped gs f then list else other.list)
    → (linked list before (g ∷ gs) after other f).list ≡ (if is_skipped (g ∷ gs) f then list else other.list)
list_step true list before g gs after other f is rest = rw is refl
list_step false list before g gs after other f is rest = rw is rest

pub list_is : (list : OnList) (before : Option FrameNo) (fs : List FrameNo) (after : Option FrameNo) (other : Link) (f : ℕ)
    → (linked list before fs after other f).list ≡ (if is_skipped fs f then list else other.list)
list_is list before [] after other f = refl
list_is list before (g ∷ gs) after other f = list_step (g.0 == f) list before g gs after other f refl (list_is list (Some g) gs after other f)

-- two lists that have no frame in common can be looked at in either order
swap_step : (test : Bool) (l m : OnList) (xs ys : List FrameNo) (other : Link) (f : ℕ) → is_skipped xs f ≡ test
    → (is_skipped xs f ≡ true → is_skipped ys f ≡ false)
    → linked l None xs None (linked m None ys None other f) f ≡ linked m None ys None (linked l None xs None other f) f
swap_step true l m xs ys other f is apart =
    rw (not_there m None ys None other f (apart is), not_there m None ys None (linked l None xs None other f) f (apart is)) refl
swap_step false l m xs ys other f is apart = rw (not_there l None xs None other f is) (not_there l None xs None (linked m None ys None other f) f is)

pub swapped : (l m : OnList) (xs ys : List FrameNo) (other : Link) (f : ℕ) → (is_skipped xs f ≡ true → is_skipped ys f ≡ false)
    → linked l None xs None (linked m None ys None other f) f ≡ linked m None ys None (linked l None xs None other f) f
swapped l m xs ys other f apart = swap_step (is_skipped xs f) l m xs ys other f refl apart

-- the ends of a list are on it
last_apart : (g : FrameNo) (fs : List FrameNo) (f : ℕ) → (g.0 == f) ≡ false → is_skipped fs f ≡ false → is_frame (last_behind (Some g) fs) f ≡ false
last_apart g [] f other none = other
last_apart g (x ∷ xs) f other none = last_apart x xs f (grind (arith, nat_tests)) (grind (arith, nat_tests))

pub last_none : (fs : List FrameNo) (f : ℕ) → is_skipped fs f ≡ false → is_frame (last_behind None fs) f ≡ false
last_none [] f none = refl
last_none (x ∷ xs) f none = last_apart x xs f (grind (arith, nat_tests)) (grind (arith, nat_tests))

first_none : (fs : List FrameNo) (f : ℕ) → is_skipped fs f ≡ false → is_frame (first_frame fs) f ≡ false
first_none [] f none = refl
first_none (x ∷ xs) f none = grind (arith, nat_tests)

-- another one comes behind a list
after_one : (test : Bool) (n : ℕ) (list : OnList) (before : Option FrameNo) (x : FrameNo) (old after : Option FrameNo) (other : Link) (f : ℕ)
    → (x.0 == f) ≡ test
    → linked list before (x ∷ []) after other f ≡ with_after (Some x) after (λ h. linked list before (x ∷ []) old other h) f
after_one true n list before x old after other f is = rw is refl
after_one false n list before x old after other f is = rw is refl

after_step : (test : Bool) (n : ℕ) (list : OnList) (before : Option FrameNo) (x y : FrameNo) (ys : List FrameNo) (old after : Option FrameNo) (other : Link)
    (f : ℕ) → (x.0 == f) ≡ test
    → FramesAreApart n (x ∷ y ∷ ys)
    → linked list (Some x) (y ∷ ys) after other f ≡ with_after (last_behind None (y ∷ ys)) after (λ h. linked list (Some x) (y ∷ ys) old other h) f
    → linked list before (x ∷ y ∷ ys) after other f ≡ with_after (last_behind None (x ∷ y ∷ ys)) after (λ h. linked list before (x ∷ y ∷ ys) old other h) f
after_step true n list before x y ys old after other f is apart rest =
    let same : x.0 ≡ f = grind (arith, nat_tests, is) in
    let once : is_skipped (y ∷ ys) f ≡ false = rw same at apart.1 in
    rw (last_none (y ∷ ys) f once, is) refl
after_step false n list before x y ys old after other f is apart rest = rw is rest

after_set : (n : ℕ) (list : OnList) (before : Option FrameNo) (fs : List FrameNo) (old after : Option FrameNo) (other : Link) (f : ℕ) → FramesAreApart n fs
    → linked list before fs after other f ≡ with_after (last_behind None fs) after (λ h. linked list before fs old other h) f
after_set n list before [] old after other f apart = refl
after_set n list before (x ∷ []) old after other f apart = after_one (x.0 == f) n list before x old after other f refl
after_set n list before (x ∷ y ∷ ys) old after other f apart =
    after_step (x.0 == f) n list before x y ys old after other f refl apart (after_set n list (Some x) (y ∷ ys) old after other f apart.2)

-- another one comes before a list
before_step : (test : Bool) (list : OnList) (old before : Option FrameNo) (x : FrameNo) (xs : List FrameNo) (after : Option FrameNo) (other : Link) (f : ℕ)
    → (x.0 == f) ≡ test
    → linked list before (x ∷ xs) after other f ≡ with_before (Some x) before (λ h. linked list old (x ∷ xs) after other h) f
before_step true list old before x xs after other f is = rw is refl
before_step false list old before x xs after other f is = rw is refl

before_set : (list : OnList) (old before : Option FrameNo) (fs : List FrameNo) (after : Option FrameNo) (other : Link) (f : ℕ)
    → linked list before fs after other f ≡ with_before (first_frame fs) before (λ h. linked list old fs after other h) f
before_set list old before [] after other f = refl
before_set list old before (x ∷ xs) after other f = before_step (x.0 == f) list old before x xs after other f refl

-- a frame that isn't among these has the other link
past_step : (test : Bool) (list : OnList) (xs : List FrameNo) (after at before : Option FrameNo) (other : Link) (f : ℕ) → is_frame at f ≡ test
    → (is_frame at f ≡ true → is_skipped xs f ≡ false)
    → with_before at before (λ h. linked list None xs after other h) f ≡ linked list None xs after
    (if is_frame at f then record other { before = before } else other) f
past_step true list xs after at before other f is apart =
    rw (is, not_there list None xs after other f (apart is)) (sym (not_there list None xs after (record other { before = before }) f (apart is)))
past_step false list xs after at before other f is apart = rw is refl

-- a frame at the back
push_step : (test : Bool) (n : ℕ) (list : OnList) (fs : List FrameNo) (f : FrameNo) (other : Link) (g : ℕ) → (f.0 == g) ≡ test → FramesAreApart n fs
    → is_skipped fs f.0 ≡ false
    → with_after (last_behind None fs) (Some f) (put_link f.0 (record { list = list; before = last_behind None fs; after = None })
    (λ h. linked list None fs None other h)) g
    ≡ linked list None fs (Some f) (if f.0 == g then record { list = list; before = last_behind None fs; after = None } else other) g
push_step true n list fs f other g is apart none =
    let same : f.0 ≡ g = grind (arith, nat_tests, is) in
    let none_g : is_skipped fs g ≡ false = rw same at none in
    rw (is, last_none fs g none_g) (sym (not_there list None fs (Some f) (record { list = list; before = last_behind None fs; after = None }) g none_g))
push_step false n list fs f other g is apart none = rw is (sym (after_set n list None fs None (Some f) other g apart))

pub pushed : (n : ℕ) (list : OnList) (fs : List FrameNo) (f : FrameNo) (other : Link) (g : ℕ) → FramesAreApart n fs → is_skipped fs f.0 ≡ false
    → with_after (last_behind None fs) (Some f) (put_link f.0 (record { list = list; before = last_behind None fs; after = None })
    (λ h. linked list None fs None other h)) g
    ≡ linked list None (fs ++ f ∷ []) None other g
pushed n list fs f other g apart none = push_step (f.0 == g) n list fs f other g refl apart none ∙ sym (joined list None fs (f ∷ []) None other g)

-- the link of a frame between others
pub link_here : (n : ℕ) (list : OnList) (xs : List FrameNo) (f : FrameNo) (ys : List FrameNo) (other : Link) → FramesAreApart n (xs ++ f ∷ ys)
    → linked list None (xs ++ f ∷ ys) None other f.0 ≡ record { list = list; before = last_behind None xs; after = first_frame ys }
link_here n list xs f ys other apart =
    joined list None xs (f ∷ ys) None other f.0
    ∙ not_there list None xs (Some f) (linked list (last_behind None xs) (f ∷ ys) None other f.0) f.0 (stands n xs f ys apart).front
    ∙ rw (same_number f.0, first_or_none ys) refl

-- a frame taken out
first_outside : (n : ℕ) (xs : List FrameNo) (f : FrameNo) (ys : List FrameNo) (g : ℕ) → FramesAreApart n (xs ++ f ∷ ys) → is_frame (first_frame ys) g ≡ true
    → is_skipped xs g ≡ false
first_outside n [] f ys g apart is = refl
first_outside n (x ∷ xs) f [] g apart is = absurd (cc)
first_outside n (x ∷ xs) f (y ∷ ys) g apart is =
    let rest = first_outside n xs f (y ∷ ys) g apart.2 is in
    let append = skipped_append xs (f ∷ y ∷ ys) x.0 in
    let once = apart.1 in
    grind (arith, nat_tests)

abbrev taken_out : OnList → List FrameNo → FrameNo → List FrameNo → Link → ℕ → Link
taken_out list xs f ys other g =
    with_before (first_frame ys) (last_behind None xs) (with_after (last_behind None xs) (first_frame ys)
    (put_link f.0 neither_link (λ h. linked list None (xs ++ f ∷ ys) None other h))) g

taken_step : (test : Bool) (n : ℕ) (list : OnList) (xs : List FrameNo) (f : FrameNo) (ys : List FrameNo) (other : Link) (g : ℕ) → (f.0 == g) ≡ test
    → FramesAreApart n (xs ++ f ∷ ys)
    → ((f.0 == g) ≡ true → other ≡ neither_link) → taken_out list xs f ys other g ≡ linked list None (xs ++ ys) None other g
taken_step true n list xs f ys other g is apart clear =
    let same : f.0 ≡ g = grind (arith, nat_tests, is) in
    let front : is_skipped xs g ≡ false = rw same at (stands n xs f ys apart).front in
    let behind : is_skipped ys g ≡ false = rw same at (stands n xs f ys apart).behind in
    let append = skipped_append xs ys g in
    let none : is_skipped (xs ++ ys) g ≡ false = grind (arith, nat_tests) in
    rw (is, last_none xs g front, first_none ys g behind) (sym (not_there list None (xs ++ ys) None other g none ∙ clear is))
taken_step false n list xs f ys other g is apart clear =
    let first = first_frame ys in
    let last = last_behind None xs in
    let rest = linked list (Some f) ys None other g in
    let old : linked list None (xs ++ f ∷ ys) None other g ≡ linked list None xs (Some f) rest g = joined list None xs (f ∷ ys) None other g ∙ rw is refl in
    let put : put_link f.0 neither_link (λ h. linked list None (xs ++ f ∷ ys) None other h) g ≡ linked list None xs (Some f) rest g = rw is old in
    let after : with_after last first (put_link f.0 neither_link (λ h. linked list None (xs ++ f ∷ ys) None other h)) g ≡ linked list None xs first rest g
    = ap (λ (l : Link). if is_frame last g then record l { after = first } else l) put
    ∙ sym (after_set n list None xs (Some f) first rest g (apart_left n xs (f ∷ ys) apart)) in
    ap (λ (l : Link). if is_frame first g then record l { before = last } else l) after
    ∙ past_step (is_frame first g) list xs first first last rest g refl (first_outside n xs f ys g apart)
    ∙ ap (λ (l : Link). linked list None xs first l g) (sym (before_set list (Some f) last ys None other g))
    ∙ ap (λ (a : Option FrameNo). linked list None xs a (linked list last ys None other g) g) (sym (first_or_none ys))
    ∙ sym (joined list None xs ys None other g)

pub taken : (n : ℕ) (list : OnList) (xs : List FrameNo) (f : FrameNo) (ys : List FrameNo) (other : Link) (g : ℕ) → FramesAreApart n (xs ++ f ∷ ys)
    → ((f.0 == g) ≡ true → other ≡ neither_link)
    → taken_out list xs f ys other g ≡ linked list None (xs ++ ys) None other g
taken n list xs f ys other g apart clear = taken_step (f.0 == g) n list xs f ys other g refl apart clear

-- the ends
last_joined : (before : Option FrameNo) (xs ys : List FrameNo) → last_behind before (xs ++ ys) ≡ last_behind (last_behind before xs) ys
last_joined before [] ys = refl
last_joined before (x ∷ xs) ys = last_joined (Some x) xs ys

has_last : (x : FrameNo) (xs : List FrameNo) → has_none (last_behind (Some x) xs) ≡ false
has_last x [] = refl
has_last x (y ∷ ys) = has_last y ys

pub ends_pushed : (ends : Ends) (fs : List FrameNo) (f : FrameNo) → AreEnds ends fs → AreEnds (with_back f ends) (fs ++ f ∷ [])
ends_pushed ends [] f are = record { first = rw are.first refl; last = refl; count = omega (arith, are.count) }
ends_pushed ends (x ∷ xs) f are =
    record { first = rw are.first refl; last = sym (last_joined (Some x) xs (f ∷ [])); count = omega (arith, are.count, length-append (x ∷ xs) (f ∷ [])) }

first_taken : (xs : List FrameNo) (f : FrameNo) (ys : List FrameNo)
    → (if has_none (last_behind None xs) then first_frame ys else first_frame (xs ++ f ∷ ys)) ≡ first_frame (xs ++ ys)
first_taken [] f ys = refl
first_taken (x ∷ xs) f ys = rw (has_last x xs) refl

last_taken : (xs : List FrameNo) (f : FrameNo) (ys : List FrameNo)
    → (if has_none (first_frame ys) then last_behind None xs else last_behind None (xs ++ f ∷ ys)) ≡ last_behind None (xs ++ ys)
last_taken xs f [] = sym (last_joined None xs [])
last_taken xs f (y ∷ ys) = last_joined None xs (f ∷ y ∷ ys) ∙ sym (last_joined None xs (y ∷ ys))

pub ends_taken : (list : OnList) (ends : Ends) (xs : List FrameNo) (f : FrameNo) (ys : List FrameNo) → AreEnds ends (xs ++ f ∷ ys)
    → AreEnds (ends_without (record { list = list; before = last_behind None xs; after = first_frame ys }) ends) (xs ++ ys)
ends_taken list ends xs f ys are = record {
  first = rw are.first (first_taken xs f ys);
  last = rw are.last (last_taken xs f ys);
  count = omega (arith, are.count, length-append xs (f ∷ ys), length-append xs ys);
}

-- the ends are below the number that the frames are below
pub first_below : (n : ℕ) (fs : List FrameNo) → FramesAreApart n fs → IsBelow n (first_frame fs)
first_below n [] apart = tt
first_below n (f ∷ fs) apart = apart.0

last_below_from : (n : ℕ) (before : Option FrameNo) (fs : List FrameNo) → IsBelow n before → FramesAreApart n fs → IsBelow n (last_behind before fs)
last_below_from n before [] below apart = below
last_below_from n before (f ∷ fs) below apart = last_below_from n (Some f) fs apart.0 apart.2

pub last_below : (n : ℕ) (fs : List FrameNo) → FramesAreApart n fs → IsBelow n (last_behind None fs)
last_below n fs apart = last_below_from n None fs tt apart

-- links that have these frames on a list give them
along_step : (links : ℕ → Link) (n : ℕ) (f : FrameNo) (fs : List FrameNo) (link : Link) → links f.0 ≡ link → along links n link.after ≡ fs
    → along links (suc n) (Some f) ≡ f ∷ fs
unfolding along
along_step links n f fs link is more = rw (is, more) refl

pub along_none : (links : ℕ → Link) (from : Option FrameNo) → along links zero from ≡ []
unfolding along
along_none links from = refl

differs : (fs : List FrameNo) (a b : ℕ) → is_skipped fs a ≡ false → is_skipped fs b ≡ true → (a == b) ≡ false
differs fs a b lacks has = grind (arith, nat_tests, lacks, has)

pub along_is : (n : ℕ) (links others : ℕ → Link) (list : OnList) (before : Option FrameNo) (fs : List FrameNo) → FramesAreApart n fs
    → ((g : ℕ) → is_skipped fs g ≡ true → links g ≡ linked list before fs None (others g) g) → along links (length fs) (first_frame fs) ≡ fs
along_is n links others list before [] apart there = along_none links None
along_is n links others list before (f ∷ fs) apart there =
    let here : links f.0 ≡ record { list = list; before = before; after = first_frame fs }
    = there f.0 (rw (same_number f.0) refl) ∙ rw (same_number f.0, first_or_none fs) refl in
    let rest : along links (length fs) (first_frame fs) ≡ fs = along_is n links others list (Some f) fs apart.2 (λ g has.
    let other : (f.0 == g) ≡ false = differs fs f.0 g apart.1 has in
    there g (rw other has) ∙ rw other refl) in
    along_step links (length fs) f fs _ here rest

-- a walk ends where no frame comes after, and goes on behind a frame
pub along_end : (links : ℕ → Link) (n : ℕ) → along links n None ≡ []
unfolding along
along_end links zero = refl
along_end links (suc n) = refl

along_front : (links : ℕ → Link) (n : ℕ) (f : FrameNo) → along links (suc n) (Some f) ≡ f ∷ along links n (links f.0).after
unfolding along
along_front links n f = refl

pub along_next : (links : ℕ → Link) (n i : ℕ) (f : FrameNo) → i < n → along links (n - i) (Some f) ≡ f ∷ along links (n - (i + 1)) (links f.0).after
along_next links n i f less =
    let left : n - i ≡ suc (n - (i + 1)) = omega (arith, less) in
    ap (λ m. along links m (Some f)) left ∙ along_front links (n - (i + 1)) f
