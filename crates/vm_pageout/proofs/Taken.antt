-- A victim that was found is taken: that is a reclaim.
use Rattle.std.proofs.Common.{◌≡◌, ◌∙◌, List, Some, ap, sym, false, true}
use Rattle.vm_base.specs.declared.ids.FrameNo.{FrameNo}
use Rattle.vm_base.specs.declared.ids.HostId.{HostId}
use Rattle.vm_model.specs.declared.event.Event.{Event}
use Rattle.vm_pageout.specs.Laundry.{LaundryList}
use Rattle.vm_pageout.specs.Reclaims.{IsChosen, ReclaimEffects, TakesPage, looked, queues_after_search}
use Rattle.vm_pageout.specs.declared.answer.Reclaim.{Reclaim}
use Rattle.vm_pageout.specs.declared.answer.Reclaim.TheVariants as reclaim
use Rattle.vm_parts.specs.declared.parts.HostParts.{HostParts}
use Rattle.vm_queues.specs.Queues.{Queues, is_queued, is_skipped, victim_frame}
use Rattle.vm_resident.specs.declared.page_row.PageRow.{PageRow}

-- the page that the lists choose
chosen : (skip : List FrameNo) (frame : FrameNo) (row : PageRow) (q : Queues) → row.frame ≡ frame → row.here ≡ true
    → victim_frame skip (queues_after_search q) ≡ Some frame → is_queued q frame.0 ≡ true → is_skipped skip frame.0 ≡ false → IsChosen skip row q
chosen skip frame row q mine here victim listed unskipped =
    record {
      victim = victim ∙ ap Some (sym mine);
      listed = ap (λ (z : FrameNo). is_queued q z.0) mine ∙ listed;
      unskipped = ap (λ (z : FrameNo). is_skipped skip z.0) mine ∙ unskipped;
      here = here;
    }

pub reclaim_taken : (answer : Reclaim) (host : HostId) (skip : List FrameNo) (frame : FrameNo) (old new : HostParts) (was now : LaundryList)
    (before after : List Event)
    → TakesPage answer host frame (looked old) new was now before after → victim_frame skip (queues_after_search old.queues) ≡ Some frame
    → is_queued old.queues frame.0 ≡ true → is_skipped skip frame.0 ≡ false → ReclaimEffects answer host skip old new was now before after
reclaim_taken reclaim.Freed host skip frame old new was now before after t victim listed unskipped =
    record {
      key = t.key;
      row = t.row;
      victim = chosen skip frame t.row old.queues t.mine t.here victim listed unskipped;
      page = t.page;
      clean = t.clean;
      plain = t.plain;
      objects = t.objects;
      laundry = t.laundry;
      events = t.events;
    }
reclaim_taken reclaim.Returned host skip frame old new was now before after t victim listed unskipped =
    record {
      key = t.key;
      row = t.row;
      object = t.object;
      victim = chosen skip frame t.row old.queues t.mine t.here victim listed unskipped;
      page = t.page;
      wanted = t.wanted;
      known = t.known;
      objects = t.objects;
      live = t.live;
      present = t.present;
      rooms = t.rooms;
      held = t.held;
      room = t.room;
      events = t.events;
    }
reclaim_taken reclaim.Nothing host skip frame old new was now before after t victim listed unskipped = absurd t
