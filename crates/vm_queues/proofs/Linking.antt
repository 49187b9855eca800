-- Both lists stay linked where a frame is put at the back of one, and where it is taken off.
use Rattle.std.proofs.Common.{ℕ, zero, suc, get_or, replicate, ◌≡◌, ◌+◌, ◌<◌, ◌^◌, ◌||◌, Bool, true, false, List, [], ◌∷◌, ◌++◌, length, set, Option, Some}
use Rattle.std.proofs.Common.{None, refl, sym, ◌∙◌, subst, ap, arith, length-append}
use Rattle.std.specs.Prelude.{if◌then◌else◌}
use Rattle.std.proofs.lemmas.Bool.Decides.{nat_tests}
use Rattle.std.proofs.lemmas.List.{append_assoc, get_or_default, length-map, length-replicate, length-set}
use Rattle.vm_base.specs.declared.ids.FrameNo.{FrameNo}
use Rattle.vm_queues.specs.Kept.{AreEnds, ArePageLists, FrameLists, FramesAreApart, IsBelow, Linked, all_frames, ends_without, frame_lists, frames_except}
use Rattle.vm_queues.specs.Kept.{frames_on, last_behind, pages, put_link, queued_page, with_active, with_after, with_back, with_before, with_inactive}
use Rattle.vm_queues.specs.Kept.{without_frame, without_link}
use Rattle.vm_queues.specs.Links.{along, first_frame, frames_of, link_among, link_behind, link_of, neither_link}
use Rattle.vm_queues.specs.Queues.{is_skipped}
use Rattle.vm_queues.specs.declared.link.Link.{Link}
use Rattle.vm_queues.specs.declared.link.OnList.{OnList}
use Rattle.vm_queues.specs.declared.link.OnList.TheVariants.{Active, Inactive, Neither}
use Rattle.vm_queues.specs.declared.lists.Lists.{Lists}
use Rattle.vm_queues.specs.declared.links.Ends.{Ends}
use Rattle.vm_queues.proofs.Apart.{apart_left, apart_push, apart_right, apart_without, apart_fits, disjoint, none_left, none_right, skipped_append, split}
use Rattle.vm_queues.proofs.Apart.{without_append, without_none, without_one}
use Rattle.vm_queues.proofs.Chains.{along_is, ends_pushed, ends_taken, first_below, last_below, link_here, linked, list_is, not_there, plain, pushed, swapped}
use Rattle.vm_queues.proofs.Chains.{taken}

by_inactive : (i a : List FrameNo) (g : ℕ) → link_among i a g ≡ linked Inactive None i None (linked Active None a None neither_link g) g
by_inactive i a g =
    plain Inactive None i (link_behind Active None a neither_link g) g ∙ ap (λ (l : Link). linked Inactive None i None l g) (plain Active None a neither_link g)

by_active : (n : ℕ) (i a : List FrameNo) (g : ℕ) → FramesAreApart n (i ++ a)
    → link_among i a g ≡ linked Active None a None (linked Inactive None i None neither_link g) g
by_active n i a g apart = by_inactive i a g ∙ swapped Inactive Active i a neither_link g (disjoint n i a g apart)

pub lists_are : (lists : Lists) (frames : FrameLists) → Linked lists frames → frame_lists lists ≡ frames
lists_are lists frames are =
    let n = length frames.marks in
    let i = frames.inactive in
    let a = frames.active in
    let active : frames_on lists.links.items lists.active ≡ a = rw (are.active.count, are.active.first)
    (along_is n (link_of lists.links.items) (λ g. linked Inactive None i None neither_link g) Active None a (apart_right n i a are.apart)
    (λ g there. are.links g ∙ by_active n i a g are.apart)) in
    let inactive : frames_on lists.links.items lists.inactive ≡ i = rw (are.inactive.count, are.inactive.first)
    (along_is n (link_of lists.links.items) (λ g. linked Active None a None neither_link g) Inactive None i (apart_left n i a are.apart)
    (λ g there. are.links g ∙ by_inactive i a g)) in
    λ k. record { active = active k; inactive = inactive k; marks = are.marks k }

pub are_lists : (lists : Lists) (frames : FrameLists) → Linked lists frames → ArePageLists lists
are_lists lists frames are = subst (Linked lists) (sym (lists_are lists frames are)) are

-- what a push needs
pub active_below : (lists : Lists) (frames : FrameLists) → Linked lists frames → IsBelow (length lists.links.items) lists.active.last
active_below lists frames are =
    rw (are.count, are.active.last) (last_below (length frames.marks) frames.active (apart_right (length frames.marks) frames.inactive frames.active are.apart))

pub inactive_below : (lists : Lists) (frames : FrameLists) → Linked lists frames → IsBelow (length lists.links.items) lists.inactive.last
inactive_below lists frames are =
    rw (are.count, are.inactive.last) (last_below (length frames.marks) frames.inactive
    (apart_left (length frames.marks) frames.inactive frames.active are.apart))

pub room_for_one : (f : FrameNo) (lists : Lists) (frames : FrameLists) → Linked lists frames → f.0 < length frames.marks
    → is_skipped (all_frames frames) f.0 ≡ false
    → lists.inactive.count + lists.active.count < length lists.links.items
room_for_one f lists frames are inside none =
    let more = apart_fits (length frames.marks) (all_frames frames ++ f ∷ []) (apart_push (length frames.marks) (all_frames frames) f are.apart inside none) in
    omega (
      arith,
      more,
      are.count,
      are.active.count,
      are.inactive.count,
      length-append (all_frames frames) (f ∷ []),
      length-append frames.inactive frames.active,
    )

-- a frame is put at the back of a list
after_put : (at : Option FrameNo) (f : FrameNo) (link : Link) (old new : ℕ → Link) (g : ℕ) → old g ≡ new g
    → with_after at (Some f) (put_link f.0 link old) g ≡ with_after at (Some f) (put_link f.0 link new) g
after_put at f link old new g same = ap (λ (l : Link). with_after at (Some f) (put_link f.0 link (λ h. l)) g) same

pub record PutsActive (f : FrameNo) (old new : Lists) (seen left : List Link) : Type 0 where
  pub before : seen ≡ old.links.items
  pub after : new.links.items ≡ left
  pub links : (g : ℕ) → link_of left g ≡ with_after old.active.last (Some f) (put_link f.0 (record { list = Active; before = old.active.last; after = None })
      (link_of seen)) g
  pub count : length left ≡ length seen
  pub marks : new.marks.items ≡ set old.marks.items f.0 false
  pub active : new.active ≡ with_back f old.active
  pub inactive : new.inactive ≡ old.inactive

pub put_active : (f : FrameNo) (old new : Lists) (seen left : List Link) (frames : FrameLists) → Linked old frames → f.0 < length frames.marks
    → is_skipped (all_frames frames) f.0 ≡ false
    → PutsActive f old new seen left → Linked new (with_active f frames)
put_active f old new seen left frames are inside none puts =
    let n = length frames.marks in
    let i = frames.inactive in
    let a = frames.active in
    let long = length-set frames.marks f.0 false in
    let other = none_right i a f.0 none in
    let apart : FramesAreApart n (i ++ (a ++ f ∷ [])) = subst (FramesAreApart n) (append_assoc i a (f ∷ [])) (apart_push n (i ++ a) f are.apart inside none) in
    record {
      marks = puts.marks ∙ ap (λ z. set z f.0 false) are.marks;
      apart = subst (λ z. FramesAreApart z (i ++ (a ++ f ∷ []))) (sym long) apart;
      links = λ g. ap (λ z. link_of z g) puts.after ∙ puts.links g
          ∙ rw are.active.last (after_put (last_behind None a) f _ (link_of seen)
          (λ h. linked Active None a None (linked Inactive None i None neither_link g) h) g
          (ap (λ z. link_of z g) puts.before ∙ are.links g ∙ by_active n i a g are.apart)
          ∙ pushed n Active a f (linked Inactive None i None neither_link g) g (apart_right n i a are.apart) other
          ∙ sym (by_active n i (a ++ f ∷ []) g apart));
      count = ap length puts.after ∙ puts.count ∙ ap length puts.before ∙ are.count ∙ sym long;
      active = rw puts.active (ends_pushed old.active a f are.active);
      inactive = rw puts.inactive are.inactive;
      few = omega (arith, long, are.few);
    }

pub record PutsInactive (f : FrameNo) (old new : Lists) (seen left : List Link) : Type 0 where
  pub before : seen ≡ old.links.items
  pub after : new.links.items ≡ left
  pub links : (g : ℕ) → link_of left g ≡ with_after old.inactive.last (Some f) (put_link f.0
      (record { list = Inactive; before = old.inactive.last; after = None }) (link_of seen)) g
  pub count : length left ≡ length seen
  pub marks : new.marks.items ≡ set old.marks.items f.0 false
  pub active : new.active ≡ old.active
  pub inactive : new.inactive ≡ with_back f old.inactive

push_between : (n : ℕ) (xs ys : List FrameNo) (f : FrameNo) → FramesAreApart n (xs ++ ys) → f.0 < n → is_skipped (xs ++ ys) f.0 ≡ false
    → FramesAreApart n ((xs ++ f ∷ []) ++ ys)
push_between n [] ys f apart inside none = (inside, none, apart)
push_between n (x ∷ xs) ys f apart inside none =
    let others : is_skipped (xs ++ ys) f.0 ≡ false = grind (arith, nat_tests) in
    let once = apart.1 in
    let old = skipped_append xs ys x.0 in
    let front = skipped_append (xs ++ f ∷ []) ys x.0 in
    let back = skipped_append xs (f ∷ []) x.0 in
    (apart.0, grind (arith, nat_tests), push_between n xs ys f apart.2 inside others)

pub put_inactive : (f : FrameNo) (old new : Lists) (seen left : List Link) (frames : FrameLists) → Linked old frames → f.0 < length frames.marks
    → is_skipped (all_frames frames) f.0 ≡ false
    → PutsInactive f old new seen left → Linked new (with_inactive f frames)
put_inactive f old new seen left frames are inside none puts =
    let n = length frames.marks in
    let i = frames.inactive in
    let a = frames.active in
    let long = length-set frames.marks f.0 false in
    let other = none_left i a f.0 none in
    record {
      marks = puts.marks ∙ ap (λ z. set z f.0 false) are.marks;
      apart = subst (λ z. FramesAreApart z ((i ++ f ∷ []) ++ a)) (sym long) (push_between n i a f are.apart inside none);
      links = λ g. ap (λ z. link_of z g) puts.after ∙ puts.links g
          ∙ rw are.inactive.last (after_put (last_behind None i) f _ (link_of seen)
          (λ h. linked Inactive None i None (linked Active None a None neither_link g) h) g
          (ap (λ z. link_of z g) puts.before ∙ are.links g ∙ by_inactive i a g)
          ∙ pushed n Inactive i f (linked Active None a None neither_link g) g (apart_left n i a are.apart) other
          ∙ sym (by_inactive (i ++ f ∷ []) a g));
      count = ap length puts.after ∙ puts.count ∙ ap length puts.before ∙ are.count ∙ sym long;
      active = rw puts.active are.active;
      inactive = rw puts.inactive (ends_pushed old.inactive i f are.inactive);
      few = omega (arith, long, are.few);
    }

-- a frame is taken off its list
without_same : (f : ℕ) (links : ℕ → Link) (here there : Link) (g : ℕ) → links f ≡ here → links g ≡ there
    → without_link f links g ≡ with_before here.after here.before (with_after here.before here.after (put_link f neither_link (λ h. there))) g
without_same f links here there g is same =
    ap (λ (l : Link). with_before l.after l.before (with_after l.before l.after (put_link f neither_link links)) g) is
    ∙ ap (λ (l : Link). with_before here.after here.before (with_after here.before here.after (put_link f neither_link (λ h. l))) g) same

pub record TakesActive (f : FrameNo) (old new : Lists) (seen left : List Link) : Type 0 where
  pub before : seen ≡ old.links.items
  pub after : new.links.items ≡ left
  pub links : (g : ℕ) → link_of left g ≡ without_link f.0 (link_of seen) g
  pub count : length left ≡ length seen
  pub marks : new.marks.items ≡ old.marks.items
  pub active : new.active ≡ ends_without (link_of seen f.0) old.active
  pub inactive : new.inactive ≡ old.inactive

active_here : (old : Lists) (xs : List FrameNo) (f : FrameNo) (ys i : List FrameNo) (marks : List Bool)
    → Linked old (record { active = xs ++ f ∷ ys; inactive = i; marks = marks })
    → link_of old.links.items f.0 ≡ record { list = Active; before = last_behind None xs; after = first_frame ys }
active_here old xs f ys i marks are =
    let n = length marks in
    are.links f.0 ∙ by_active n i (xs ++ f ∷ ys) f.0 are.apart
    ∙ link_here n Active xs f ys (linked Inactive None i None neither_link f.0) (apart_right n i (xs ++ f ∷ ys) are.apart)

active_taken : (old new : Lists) (seen left : List Link) (xs : List FrameNo) (f : FrameNo) (ys i : List FrameNo) (marks : List Bool)
    → Linked old (record { active = xs ++ f ∷ ys; inactive = i; marks = marks })
    → FramesAreApart (length marks) (i ++ (xs ++ ys)) → is_skipped i f.0 ≡ false → TakesActive f old new seen left
    → Linked new (record { active = xs ++ ys; inactive = i; marks = marks })
active_taken old new seen left xs f ys i marks are apart none takes =
    let n = length marks in
    let here = ap (λ z. link_of z f.0) takes.before ∙ active_here old xs f ys i marks are in
    record {
      marks = takes.marks ∙ are.marks;
      apart = apart;
      links = λ g. ap (λ z. link_of z g) takes.after ∙ takes.links g
          ∙ without_same f.0 (link_of seen) _ _ g here (ap (λ z. link_of z g) takes.before ∙ are.links g ∙ by_active n i (xs ++ f ∷ ys) g are.apart)
          ∙ taken n Active xs f ys (linked Inactive None i None neither_link g) g (apart_right n i (xs ++ f ∷ ys) are.apart)
          (λ is. let same : f.0 ≡ g = grind (arith, nat_tests, is) in not_there Inactive None i None neither_link g (rw same at none))
          ∙ sym (by_active n i (xs ++ ys) g apart);
      count = ap length takes.after ∙ takes.count ∙ ap length takes.before ∙ are.count;
      active = rw (takes.active, here) (ends_taken Active old.active xs f ys are.active);
      inactive = rw takes.inactive are.inactive;
      few = are.few;
    }

pub record TakesInactive (f : FrameNo) (old new : Lists) (seen left : List Link) : Type 0 where
  pub before : seen ≡ old.links.items
  pub after : new.links.items ≡ left
  pub links : (g : ℕ) → link_of left g ≡ without_link f.0 (link_of seen) g
  pub count : length left ≡ length seen
  pub marks : new.marks.items ≡ old.marks.items
  pub active : new.active ≡ old.active
  pub inactive : new.inactive ≡ ends_without (link_of seen f.0) old.inactive

inactive_here : (old : Lists) (xs : List FrameNo) (f : FrameNo) (ys a : List FrameNo) (marks : List Bool)
    → Linked old (record { active = a; inactive = xs ++ f ∷ ys; marks = marks })
    → link_of old.links.items f.0 ≡ record { list = Inactive; before = last_behind None xs; after = first_frame ys }
inactive_here old xs f ys a marks are =
    are.links f.0 ∙ by_inactive (xs ++ f ∷ ys) a f.0 ∙ link_here (length marks) Inactive xs f ys (linked Active None a None neither_link f.0)
    (apart_left (length marks) (xs ++ f ∷ ys) a are.apart)

inactive_taken : (old new : Lists) (seen left : List Link) (xs : List FrameNo) (f : FrameNo) (ys a : List FrameNo) (marks : List Bool)
    → Linked old (record { active = a; inactive = xs ++ f ∷ ys; marks = marks })
    → FramesAreApart (length marks) ((xs ++ ys) ++ a) → is_skipped a f.0 ≡ false → TakesInactive f old new seen left
    → Linked new (record { active = a; inactive = xs ++ ys; marks = marks })
inactive_taken old new seen left xs f ys a marks are apart none takes =
    let n = length marks in
    let here = ap (λ z. link_of z f.0) takes.before ∙ inactive_here old xs f ys a marks are in
    record {
      marks = takes.marks ∙ are.marks;
      apart = apart;
      links = λ g. ap (λ z. link_of z g) takes.after ∙ takes.links g
          ∙ without_same f.0 (link_of seen) _ _ g here (ap (λ z. link_of z g) takes.before ∙ are.links g ∙ by_inactive (xs ++ f ∷ ys) a g)
          ∙ taken n Inactive xs f ys (linked Active None a None neither_link g) g (apart_left n (xs ++ f ∷ ys) a are.apart)
          (λ is. let same : f.0 ≡ g = grind (arith, nat_tests, is) in not_there Active None a None neither_link g (rw same at none))
          ∙ sym (by_inactive (xs ++ ys) a g);
      count = ap length takes.after ∙ takes.count ∙ ap length takes.before ∙ are.count;
      active = rw takes.active are.active;
      inactive = rw (takes.inactive, here) (ends_taken Inactive old.inactive xs f ys are.inactive);
      few = are.few;
    }

-- a read of a link gives the link
pub read_is : (links : List Link) (f : ℕ) (link : Link) → f < length links → link ≡ get_or links f link → link_of links f ≡ link
read_is links f link inside is = get_or_default links f neither_link link inside ∙ sym is

-- which list a frame is on
list_among : (i a : List FrameNo) (f : ℕ) → (link_among i a f).list ≡ (if is_skipped i f then Inactive else (if is_skipped a f then Active else Neither))
list_among i a f =
    ap (λ (l : Link). l.list) (by_inactive i a f)
    ∙ list_is Inactive None i None (linked Active None a None neither_link f) f
    ∙ ap (λ (l : OnList). if is_skipped i f then Inactive else l) (list_is Active None a None neither_link f)

on_active : (x y : Bool) → (if x then Inactive else (if y then Active else Neither)) ≡ Active → (x ≡ false) × (y ≡ true)
on_active true y is = absurd (cc)
on_active false true is = (refl, refl)
on_active false false is = absurd (cc)

on_inactive : (x y : Bool) → (if x then Inactive else (if y then Active else Neither)) ≡ Inactive → x ≡ true
on_inactive true y is = refl
on_inactive false true is = absurd (cc)
on_inactive false false is = absurd (cc)

on_neither : (x y : Bool) → (if x then Inactive else (if y then Active else Neither)) ≡ Neither → (x || y) ≡ false
on_neither true y is = absurd (cc)
on_neither false true is = absurd (cc)
on_neither false false is = refl

pub is_neither : (old : Lists) (frames : FrameLists) (f : ℕ) → Linked old frames → (link_of old.links.items f).list ≡ Neither
    → is_skipped (all_frames frames) f ≡ false
is_neither old frames f are is =
    skipped_append frames.inactive frames.active f
    ∙ on_neither (is_skipped frames.inactive f) (is_skipped frames.active f) (sym (list_among frames.inactive frames.active f)
    ∙ ap (λ (l : Link). l.list) (sym (are.links f)) ∙ is)

pub is_active : (old : Lists) (frames : FrameLists) (f : ℕ) → Linked old frames → (link_of old.links.items f).list ≡ Active
    → (is_skipped frames.inactive f ≡ false) × (is_skipped frames.active f ≡ true)
is_active old frames f are is =
    on_active (is_skipped frames.inactive f) (is_skipped frames.active f) (sym (list_among frames.inactive frames.active f)
    ∙ ap (λ (l : Link). l.list) (sym (are.links f)) ∙ is)

pub is_inactive : (old : Lists) (frames : FrameLists) (f : ℕ) → Linked old frames → (link_of old.links.items f).list ≡ Inactive
    → is_skipped frames.inactive f ≡ true
is_inactive old frames f are is =
    on_inactive (is_skipped frames.inactive f) (is_skipped frames.active f) (sym (list_among frames.inactive frames.active f)
    ∙ ap (λ (l : Link). l.list) (sym (are.links f)) ∙ is)

-- what unlinking needs
pub record Fits (n : ℕ) (link : Link) (ends : Ends) : Type 0 where
  pub before : IsBelow n link.before
  pub after : IsBelow n link.after
  pub some : 0 < ends.count

fits : (n m : ℕ) (list : OnList) (link : Link) (ends : Ends) (xs : List FrameNo) (f : FrameNo) (ys : List FrameNo) → m ≡ n → FramesAreApart n (xs ++ f ∷ ys)
    → AreEnds ends (xs ++ f ∷ ys)
    → link ≡ record { list = list; before = last_behind None xs; after = first_frame ys } → Fits m link ends
fits n m list link ends xs f ys same apart are is =
    let parts = apart_right n xs (f ∷ ys) apart in
    record {
      before = rw (same, is) (last_below n xs (apart_left n xs (f ∷ ys) apart));
      after = rw (same, is) (first_below n ys parts.2);
      some = omega (arith, are.count, length-append xs (f ∷ ys));
    }

pub fits_active : (old : Lists) (frames : FrameLists) (f : FrameNo) → Linked old frames → (link_of old.links.items f.0).list ≡ Active
    → Fits (length old.links.items) (link_of old.links.items f.0) old.active
fits_active old frames f are is =
    let s = split f frames.active (is_active old frames f.0 are is).1 in
    let linked : Linked old (record frames { active = s.left ++ f ∷ s.right }) = subst (λ z. Linked old (record frames { active = z })) s.is are in
    fits (length frames.marks) (length old.links.items) Active _ old.active s.left f s.right are.count (apart_right _ frames.inactive _ linked.apart)
    linked.active
    (active_here old s.left f s.right frames.inactive frames.marks linked)

pub fits_inactive : (old : Lists) (frames : FrameLists) (f : FrameNo) → Linked old frames → (link_of old.links.items f.0).list ≡ Inactive
    → Fits (length old.links.items) (link_of old.links.items f.0) old.inactive
fits_inactive old frames f are is =
    let s = split f frames.inactive (is_inactive old frames f.0 are is) in
    let linked : Linked old (record frames { inactive = s.left ++ f ∷ s.right }) = subst (λ z. Linked old (record frames { inactive = z })) s.is are in
    fits (length frames.marks) (length old.links.items) Inactive _ old.inactive s.left f s.right are.count
    (apart_left _ (s.left ++ f ∷ s.right) frames.active linked.apart) linked.inactive
    (inactive_here old s.left f s.right frames.active frames.marks linked)

except_apart : (f : ℕ) (frames : FrameLists) (n : ℕ) → FramesAreApart n (all_frames frames) → FramesAreApart n (all_frames (frames_except f frames))
except_apart f frames n apart = subst (FramesAreApart n) (without_append f frames.inactive frames.active) (apart_without n f (all_frames frames) apart)

pub take_active : (f : FrameNo) (old new : Lists) (seen left : List Link) (frames : FrameLists) → Linked old frames
    → (link_of old.links.items f.0).list ≡ Active → TakesActive f old new seen left → Linked new (frames_except f.0 frames)
take_active f old new seen left frames are is takes =
    let on = is_active old frames f.0 are is in
    let n = length frames.marks in
    let i = frames.inactive in
    let s = split f frames.active on.1 in
    let linked : Linked old (record frames { active = s.left ++ f ∷ s.right }) = subst (λ z. Linked old (record frames { active = z })) s.is are in
    let active : without_frame f.0 frames.active ≡ s.left ++ s.right = ap (without_frame f.0) s.is
    ∙ without_one n s.left f s.right (apart_right n i (s.left ++ f ∷ s.right) linked.apart) in
    let inactive : without_frame f.0 i ≡ i = without_none f.0 i on.0 in
    let apart : FramesAreApart n (i ++ (s.left ++ s.right)) = subst (λ z. FramesAreApart n (z ++ (s.left ++ s.right))) inactive
    (subst (λ z. FramesAreApart n (without_frame f.0 i ++ z)) active (except_apart f.0 frames n are.apart)) in
    let rest = active_taken old new seen left s.left f s.right i frames.marks linked apart on.0 takes in
    subst (λ z. Linked new (record frames { active = without_frame f.0 frames.active; inactive = z })) (sym inactive)
    (subst (λ z. Linked new (record frames { active = z })) (sym active) rest)

pub take_inactive : (f : FrameNo) (old new : Lists) (seen left : List Link) (frames : FrameLists) → Linked old frames
    → (link_of old.links.items f.0).list ≡ Inactive → TakesInactive f old new seen left → Linked new (frames_except f.0 frames)
take_inactive f old new seen left frames are is takes =
    let on = is_inactive old frames f.0 are is in
    let n = length frames.marks in
    let a = frames.active in
    let none = disjoint n frames.inactive a f.0 are.apart on in
    let s = split f frames.inactive on in
    let linked : Linked old (record frames { inactive = s.left ++ f ∷ s.right }) = subst (λ z. Linked old (record frames { inactive = z })) s.is are in
    let inactive : without_frame f.0 frames.inactive ≡ s.left ++ s.right = ap (without_frame f.0) s.is
    ∙ without_one n s.left f s.right (apart_left n (s.left ++ f ∷ s.right) a linked.apart) in
    let active : without_frame f.0 a ≡ a = without_none f.0 a none in
    let apart : FramesAreApart n ((s.left ++ s.right) ++ a) = subst (λ z. FramesAreApart n ((s.left ++ s.right) ++ z)) active
    (subst (λ z. FramesAreApart n (z ++ without_frame f.0 a)) inactive (except_apart f.0 frames n are.apart)) in
    let rest = inactive_taken old new seen left s.left f s.right a frames.marks linked apart none takes in
    subst (λ z. Linked new (record frames { inactive = without_frame f.0 frames.inactive; active = z })) (sym active)
    (subst (λ z. Linked new (record frames { inactive = z })) (sym inactive) rest)

-- a mark changes no link
pub marked_lists : (f : ℕ) (mark : Bool) (old new : Lists) (frames : FrameLists) → Linked old frames → new.links.items ≡ old.links.items
    → new.active ≡ old.active → new.inactive ≡ old.inactive
    → new.marks.items ≡ set old.marks.items f mark → Linked new (record frames { marks = set frames.marks f mark })
marked_lists f mark old new frames are links active inactive marks =
    let long = length-set frames.marks f mark in
    record {
      marks = marks ∙ ap (λ z. set z f mark) are.marks;
      apart = subst (λ z. FramesAreApart z (all_frames frames)) (sym long) are.apart;
      links = λ g. ap (λ z. link_of z g) links ∙ are.links g;
      count = ap length links ∙ are.count ∙ sym long;
      active = rw active are.active;
      inactive = rw inactive are.inactive;
      few = omega (arith, long, are.few);
    }

-- no frame is on a list
neither_all : (n f : ℕ) → link_of (replicate n neither_link) f ≡ neither_link
neither_all zero f = refl
neither_all (suc n) zero = refl
neither_all (suc n) (suc f) = neither_all n f

pub empty_lists : (n : ℕ) (lists : Lists) → n < 2 ^ 32 → lists.links.items ≡ replicate n neither_link → lists.marks.items ≡ replicate n false
    → lists.active ≡ record { first = None; last = None; count = 0 }
    → lists.inactive ≡ record { first = None; last = None; count = 0 } → Linked lists (record { active = []; inactive = []; marks = replicate n false })
empty_lists n lists few links marks active inactive = record {
  marks = marks;
  apart = tt;
  links = λ f. ap (λ z. link_of z f) links ∙ neither_all n f;
  count = ap length links ∙ length-replicate n neither_link ∙ sym (length-replicate n false);
  active = record { first = ap (λ (e : Ends). e.first) active; last = ap (λ (e : Ends). e.last) active; count = ap (λ (e : Ends). e.count) active };
  inactive = record { first = ap (λ (e : Ends). e.first) inactive; last = ap (λ (e : Ends). e.last) inactive; count = ap (λ (e : Ends). e.count) inactive };
  few = omega (arith, few, length-replicate n false);
}

-- the frames of the pages are the frames
pub frames_back : (marks : List Bool) (fs : List FrameNo) → frames_of (pages marks fs) ≡ fs
frames_back marks [] = refl
frames_back marks (f ∷ fs) = ap (λ z. f ∷ z) (frames_back marks fs)

-- the walk along the links gives the frames of the pages
pub walked_back : (links seen : List Link) (ends : Ends) (marks : List Bool) (fs : List FrameNo) → seen ≡ links → AreEnds ends fs → frames_on links ends ≡ fs
    → along (link_of seen) (length (pages marks fs)) (first_frame (frames_of (pages marks fs))) ≡ frames_of (pages marks fs)
walked_back links seen ends marks fs same are walk =
    rw (same, frames_back marks fs, length-map fs (queued_page marks), ← are.count, ← are.first) walk
