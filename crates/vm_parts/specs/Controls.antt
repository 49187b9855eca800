-- The controls of a host's objects.
use Rattle.std.specs.Prelude.{ℕ, ◌-◌, ◌^◌, ◌<◌, ◌≡◌, ◌≢◌, true, Some}
use Rattle.vm_objects.specs.Objects.{ObjectTable, object_at}
use Rattle.vm_objects.specs.declared.row.ObjectRow.{ObjectRow}
use Rattle.vm_objects.specs.declared.row.PagerState.TheVariants as state

-- each pager that was told of its object was told of a control that is in use
pub record AllLive (objects : ObjectTable) : Type 0 where
  pub at : (o : ℕ) (row : ObjectRow) → object_at objects o ≡ Some row → row.state ≢ state.Without → row.live ≡ true

-- there is a number for one more control of each object
pub record HasNumbers (objects : ObjectTable) : Type 0 where
  pub at : (o : ℕ) (row : ObjectRow) → object_at objects o ≡ Some row → row.control < 2 ^ 32 - 1
