-- The lists of pages behind a merge: a page that goes up keeps its frame and its place, and the frame of one that goes is off them.
use Rattle.std.proofs.Common.{◌≡◌, ◌∙◌, ℕ, ◌+◌, ◌==◌, ◌&&◌, Bool, Option, None, Some, ap, false, refl, true}
use Rattle.std.specs.Prelude.{IsSome, if◌then◌else◌, is_some}
use Rattle.vm_base.specs.declared.ids.ObjectId.{ObjectId}
use Rattle.vm_kernel.proofs.lists.ListsAsTold.{frames_put, here_is, paging_in, same_paging}
use Rattle.vm_kernel.specs.Plays.{GoesAway, GoesUp, NoneHere, PagesJoin, frame_here}
use Rattle.vm_parts.specs.Merging.{Goes, MovesUp, Next, NoMore, PagesMerge}
use Rattle.vm_parts.specs.declared.parts.HostParts.{HostParts}
use Rattle.vm_resident.specs.Resident.{row_at}
use Rattle.vm_resident.specs.declared.page_row.PageRow.{PageRow}
use Rattle.vm_state.proofs.MergedPages.{AreHere}
use Rattle.vm_state.proofs.PagesMerged.{one_here}

here_some : (x : Option PageRow) → IsSome x → ((row : PageRow) → x ≡ Some row → row.here ≡ true) → IsSome (frame_here x)
here_some None some here = some
here_some (Some row) some here = ap (λ (b : Bool). is_some (if b then Some row.frame else None)) (here row refl)

twice : (b c : Bool) (x y : Option PageRow) → frame_here (if b then x else (if c then None else y)) ≡ (if b then frame_here x else
    (if c then None else frame_here y))
twice true c x y = refl
twice false true x y = refl
twice false false x y = refl

pub pages_join : (upper lower : ObjectId) (shift pages from : ℕ) (old new : HostParts) → (upper.0 ≡ lower.0 → ⊥) → AreHere old.resident upper.0 lower.0
    → PagesMerge upper lower shift pages from old new → PagesJoin upper.0 lower.0 shift pages from (paging_in old) (paging_in new)
pages_join upper lower shift pages from old new apart here (NoMore _ _ none) = NoneHere from (paging_in old) (λ p high. ap frame_here (none p high))
pages_join upper lower shift pages from old new apart here (Next _ page row _ mid _ least none found objects (MovesUp to is less shifts) rest) =
    GoesUp from page.0 to.0 row.frame (paging_in old) (paging_in mid) (paging_in new)
    (record {
      least = least;
      none = λ p high small. ap frame_here (none p high small);
      here = here_is _ row row.frame found (here.below page.0 row found) refl;
    })
    is less (ap frame_here shifts.vacant)
    (same_paging _ _ _ _ (λ o p. ap frame_here (shifts.rows o p) ∙ (twice (upper.0 == o && to.0 == p) (lower.0 == o && page.0 == p) (Some row)
    (row_at old.resident o p) ∙ ap (λ z. if upper.0 == o && to.0 == p then z else (if lower.0 == o && page.0 == p then None
    else frame_here (row_at old.resident o p))) (here_is (Some row) row row.frame refl (here.below page.0 row found) refl))) shifts.queues)
    (pages_join upper lower shift pages (page.0 + 1) mid new apart
    (one_here upper lower shift pages page row old mid apart found (MovesUp to is less shifts) here) rest)
pages_join upper lower shift pages from old new apart here (Next _ page row _ mid _ least none found objects (Goes why discards) rest) =
    GoesAway from page.0 row.frame (paging_in old) (paging_in mid) (paging_in new)
    (record {
      least = least;
      none = λ p high small. ap frame_here (none p high small);
      here = here_is _ row row.frame found (here.below page.0 row found) refl;
    })
    (λ p is inside. here_some (row_at old.resident upper.0 p) (why p is inside) (λ other there. here.above p other there))
    (record {
      frame = row.frame;
      here = here_is _ row row.frame found (here.below page.0 row found) refl;
      is = same_paging _ _ _ _ (frames_put old.resident mid.resident lower.0 page.0 None None discards.row refl) discards.queues;
    })
    (pages_join upper lower shift pages (page.0 + 1) mid new apart (one_here upper lower shift pages page row old mid apart found (Goes why discards) here)
    rest)
