-- A page that is here, and its frame.
use Rattle.std.proofs.Common.{◌≡◌, length, subst}
use Rattle.vm_base.specs.declared.ids.FrameNo.{FrameNo}
use Rattle.vm_base.specs.declared.ids.PageKey.{PageKey}
use Rattle.vm_frames.specs.Frames.{page_in}
use Rattle.vm_parts.specs.Fits.{Fit}
use Rattle.vm_parts.specs.declared.parts.HostParts.{HostParts}
use Rattle.vm_parts.proofs.Changing.{holds}
use Rattle.vm_fault.specs.Stops.{IsHere}

-- its frame is as long as the buffers
pub here_sized : (parts : HostParts) (key : PageKey) (frame : FrameNo) → Fit parts → IsHere key frame parts
    → length (page_in parts.frames frame.0) ≡ parts.buffers.size
here_sized parts key frame fit here =
    subst (λ (z : FrameNo). length (page_in parts.frames z.0) ≡ parts.buffers.size) here.is (holds parts key.object.0 key.page.0 here.row fit here.found).sized
