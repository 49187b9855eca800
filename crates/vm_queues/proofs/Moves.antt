-- The pages that contracts see, where frames are put on a list and taken off one.
use Rattle.std.proofs.Common.{ℕ, ◌≡◌, ◌+◌, ◌<◌, ◌≤◌, Bool, true, false, List, [], ◌∷◌, ◌++◌, Some, None, get_or, length, set, sym, ◌∙◌, ap, subst, arith, refl}
use Rattle.std.proofs.lemmas.Bool.Decides.{nat_tests}
use Rattle.std.proofs.lemmas.List.{get_or-set_same, get_or_default, length-append, length-set, map-append, map_push}
use Rattle.vm_base.specs.declared.ids.FrameNo.{FrameNo}
use Rattle.vm_queues.specs.Kept.{FrameLists, FramesAreApart, all_frames, frames_except, front_referenced_of, pages, pages_of, queued_page, with_active}
use Rattle.vm_queues.specs.Kept.{with_inactive}
use Rattle.vm_queues.specs.Links.{first_frame}
use Rattle.vm_queues.specs.Queues.{added, has_page, is_queued, is_skipped, new_page, one_spared, queues_except, with_deactivated, with_reference}
use Rattle.vm_queues.proofs.Apart.{apart_fits, has_pages, inside, none_left, none_right, none_without, pages_apart, pages_marked, pages_without, skipped_append}
use Rattle.vm_queues.proofs.Apart.{stands, without_append, without_first, without_none}
use Rattle.vm_queues.proofs.Balance.{same_queues}

pub all_fit : (lists : FrameLists) → FramesAreApart (length lists.marks) (all_frames lists) → length lists.inactive + length lists.active ≤ length lists.marks
all_fit lists apart = omega (arith, apart_fits _ _ apart, length-append lists.inactive lists.active)

pub queued_is : (lists : FrameLists) (f : ℕ) → is_queued (pages_of lists) f ≡ is_skipped (all_frames lists) f
queued_is lists f =
    ap (λ ps. has_page ps f) (sym (map-append (queued_page lists.marks) lists.inactive lists.active)) ∙ has_pages lists.marks f (all_frames lists)

pages_pushed : (marks : List Bool) (f : FrameNo) (fs : List FrameNo) → is_skipped fs f.0 ≡ false → f.0 < length marks
    → pages (set marks f.0 false) (fs ++ f ∷ []) ≡ pages marks fs ++ new_page f.0 ∷ []
pages_pushed marks f fs apart inside =
    let here : queued_page (set marks f.0 false) f ≡ new_page f.0 = λ k. record { frame = f.0; referenced = get_or-set_same marks f.0 false false inside k } in
    map_push (queued_page (set marks f.0 false)) fs f ∙ ap (λ z. z ++ queued_page (set marks f.0 false) f ∷ []) (pages_apart marks f.0 false fs apart)
    ∙ ap (λ z. pages marks fs ++ z ∷ []) here

-- a frame that is on no list goes to the active back
pub added_seen : (f : FrameNo) (lists : FrameLists) → f.0 < length lists.marks → is_skipped (all_frames lists) f.0 ≡ false
    → pages_of (with_active f lists) ≡ added f.0 (pages_of lists)
added_seen f lists inside none =
    let left = none_left lists.inactive lists.active f.0 none in
    let right = none_right lists.inactive lists.active f.0 none in
    same_queues _ _ _ _ _ _ (pages_pushed lists.marks f lists.active right inside) (pages_apart lists.marks f.0 false lists.inactive left)
    (length-set lists.marks f.0 false)

-- the active front goes to the inactive back
aged : (f : FrameNo) (a i : List FrameNo) (marks : List Bool) → FramesAreApart (length marks) (i ++ f ∷ a)
    → pages_of (with_inactive f (frames_except f.0 (record { active = f ∷ a; inactive = i; marks = marks }))) ≡ with_deactivated 1
    (pages_of (record { active = f ∷ a; inactive = i; marks = marks }))
aged f a i marks apart =
    let stand = stands (length marks) i f a apart in
    same_queues _ _ _ _ _ _
    (ap (pages (set marks f.0 false)) (without_first f a stand.behind) ∙ pages_apart marks f.0 false a stand.behind)
    (ap (λ z. pages (set marks f.0 false) (z ++ f ∷ [])) (without_none f.0 i stand.front) ∙ pages_pushed marks f i stand.front stand.inside)
    (length-set marks f.0 false)

aged_on : (f : FrameNo) (a i : List FrameNo) (marks : List Bool) → first_frame a ≡ Some f → FramesAreApart (length marks) (i ++ a)
    → pages_of (with_inactive f (frames_except f.0 (record { active = a; inactive = i; marks = marks }))) ≡ with_deactivated 1
    (pages_of (record { active = a; inactive = i; marks = marks }))
aged_on f [] i marks first apart = absurd (cc)
aged_on f (g ∷ a) i marks first apart =
    let same : g ≡ f = cc in
    subst (λ z. pages_of (with_inactive z (frames_except z.0 (record { active = g ∷ a; inactive = i; marks = marks }))) ≡ with_deactivated 1
    (pages_of (record { active = g ∷ a; inactive = i; marks = marks }))) same
    (aged g a i marks apart)

pub aged_seen : (f : FrameNo) (lists : FrameLists) → first_frame lists.active ≡ Some f → FramesAreApart (length lists.marks) (all_frames lists)
    → pages_of (with_inactive f (frames_except f.0 lists)) ≡ with_deactivated 1 (pages_of lists)
aged_seen f lists first apart = aged_on f lists.active lists.inactive lists.marks first apart

-- the inactive front goes to the active back
turned : (f : FrameNo) (a i : List FrameNo) (marks : List Bool) → FramesAreApart (length marks) (f ∷ (i ++ a))
    → pages_of (with_active f (frames_except f.0 (record { active = a; inactive = f ∷ i; marks = marks }))) ≡ one_spared
    (pages_of (record { active = a; inactive = f ∷ i; marks = marks }))
turned f a i marks apart =
    let left = none_left i a f.0 apart.1 in
    let right = none_right i a f.0 apart.1 in
    same_queues _ _ _ _ _ _
    (ap (λ z. pages (set marks f.0 false) (z ++ f ∷ [])) (without_none f.0 a right) ∙ pages_pushed marks f a right apart.0)
    (ap (pages (set marks f.0 false)) (without_first f i left) ∙ pages_apart marks f.0 false i left)
    (length-set marks f.0 false)

turned_on : (f : FrameNo) (a i : List FrameNo) (marks : List Bool) → first_frame i ≡ Some f → FramesAreApart (length marks) (i ++ a)
    → pages_of (with_active f (frames_except f.0 (record { active = a; inactive = i; marks = marks }))) ≡ one_spared
    (pages_of (record { active = a; inactive = i; marks = marks }))
turned_on f a [] marks first apart = absurd (cc)
turned_on f a (g ∷ i) marks first apart =
    let same : g ≡ f = cc in
    subst (λ z. pages_of (with_active z (frames_except z.0 (record { active = a; inactive = g ∷ i; marks = marks }))) ≡ one_spared
    (pages_of (record { active = a; inactive = g ∷ i; marks = marks }))) same
    (turned g a i marks apart)

pub spared_seen : (f : FrameNo) (lists : FrameLists) → first_frame lists.inactive ≡ Some f → FramesAreApart (length lists.marks) (all_frames lists)
    → pages_of (with_active f (frames_except f.0 lists)) ≡ one_spared (pages_of lists)
spared_seen f lists first apart = turned_on f lists.active lists.inactive lists.marks first apart

pub none_first : (fs : List FrameNo) → first_frame fs ≡ None → fs ≡ []
none_first [] none = refl
none_first (f ∷ fs) none = absurd (cc)

first_has : (fs : List FrameNo) (f : FrameNo) → first_frame fs ≡ Some f → is_skipped fs f.0 ≡ true
first_has [] f first = absurd (cc)
first_has (g ∷ fs) f first = let same : g ≡ f = cc in grind (arith, nat_tests)

pub active_first : (lists : FrameLists) (f : FrameNo) → first_frame lists.active ≡ Some f → is_skipped (all_frames lists) f.0 ≡ true
active_first lists f first =
    let append = skipped_append lists.inactive lists.active f.0 in
    let there = first_has lists.active f first in
    grind (arith, nat_tests)

pub inactive_first : (lists : FrameLists) (f : FrameNo) → first_frame lists.inactive ≡ Some f → is_skipped (all_frames lists) f.0 ≡ true
inactive_first lists f first =
    let append = skipped_append lists.inactive lists.active f.0 in
    let there = first_has lists.inactive f first in
    grind (arith, nat_tests)

pub none_except : (lists : FrameLists) (f : ℕ) → is_skipped (all_frames (frames_except f lists)) f ≡ false
none_except lists f = ap (λ z. is_skipped z f) (sym (without_append f lists.inactive lists.active)) ∙ none_without f (all_frames lists)

pub frame_inside : (lists : FrameLists) (f : ℕ) → FramesAreApart (length lists.marks) (all_frames lists) → is_skipped (all_frames lists) f ≡ true
    → f < length lists.marks
frame_inside lists f apart there = inside (length lists.marks) (all_frames lists) f apart there

pub touched_seen : (f : ℕ) (lists : FrameLists) → f < length lists.marks
    → pages_of (record lists { marks = set lists.marks f true }) ≡ with_reference f (pages_of lists)
touched_seen f lists inside =
    same_queues _ _ _ _ _ _ (pages_marked lists.marks f lists.active inside) (pages_marked lists.marks f lists.inactive inside) (length-set lists.marks f true)

-- a frame is taken off its list
pub dropped_seen : (f : ℕ) (lists : FrameLists) → pages_of (frames_except f lists) ≡ queues_except f (pages_of lists)
dropped_seen f lists = same_queues _ _ _ _ _ _ (pages_without lists.marks f lists.active) (pages_without lists.marks f lists.inactive) refl

-- the mark of the first frame of a list
pub front_read : (marks : List Bool) (fs : List FrameNo) (f : FrameNo) (mark : Bool) → first_frame fs ≡ Some f → f.0 < length marks
    → mark ≡ get_or marks f.0 mark → mark ≡ front_referenced_of (pages marks fs)
front_read marks [] f mark first inside is = absurd (cc)
front_read marks (g ∷ fs) f mark first inside is =
    let same : g ≡ f = cc in
    is ∙ get_or_default marks f.0 mark false inside ∙ ap (λ (h : FrameNo). get_or marks h.0 false) (sym same)
