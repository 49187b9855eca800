-- What contracts see of a laundry.
use Rattle.std.specs.Prelude.{ℕ, List}
use Rattle.vm_base.specs.declared.ids.FrameNo.{FrameNo}

-- the frames that are held, oldest first, and how many more there is room for
pub record LaundryList : Type 0 where
  pub held : List FrameNo
  pub room : ℕ
