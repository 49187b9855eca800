-- The numbers of a summary are those of a history.
use Rattle.std.specs.Prelude.{◌≡◌, List}
use Rattle.vm_model.specs.declared.event.Event.{Event}
use Rattle.vm_model.specs.Summary.{count_of, is_line, is_refused, is_begun, is_loaded, is_stored, is_copy_ended, is_failed, is_sent, is_taken_event, is_dropped}
use Rattle.vm_model.specs.Summary.{sum_of}
use Rattle.vm_top.specs.declared.summary.Summary.{Summary}

pub record IsSummary (summary : Summary) (history : List Event) : Type 0 where
  pub lines : summary.lines ≡ count_of is_line history
  pub refused : summary.refused ≡ count_of is_refused history
  pub begun : summary.begun ≡ count_of is_begun history
  pub loads : summary.loads ≡ count_of is_loaded history
  pub stores : summary.stores ≡ count_of is_stored history
  pub copies : summary.copies ≡ count_of is_copy_ended history
  pub failed : summary.failed ≡ count_of is_failed history
  pub sent : summary.sent ≡ count_of is_sent history
  pub taken : summary.taken ≡ count_of is_taken_event history
  pub dropped : summary.dropped ≡ count_of is_dropped history
  pub sum : summary.sum ≡ sum_of history
