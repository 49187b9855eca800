-- The calls that an answer made, as its events tell them.
use Rattle.std.proofs.Common.{ℕ, ◌≡◌, Bool, List, Ok, ◌∙◌, ap}
use Rattle.vm_base.specs.declared.ids.PageNo.{PageNo}
use Rattle.vm_model.specs.declared.event.Event.{Event}
use Rattle.vm_outside.specs.Calls.{Call}
use Rattle.pg_file.proofs.Leaving.{told_stored}
use Rattle.pg_file.specs.declared.found.Found.{Found}
use Rattle.pg_file.specs.declared.found.Found.TheVariants.{Page, Absent, Lost, Failed}
use Rattle.pg_file.specs.Answers.{is_stored, told_of}
use Rattle.pg_file.specs.Calls.{FindMakes, RequestMakes, StoreMakes}
use Rattle.pg_file.specs.Finding.{find_events}

pub request_made : {F : Type 0} (called : Call → F → F → Type 0) (name : List ℕ) (at size : ℕ) (found : Found) (host object control : ℕ) (page : PageNo)
    (events : List Event) (before after : F)
    → events ≡ find_events found host object control page → FindMakes called name at size (Ok found) before after
    → RequestMakes called name at size events before after
request_made called name at size (Page bytes) host object control page events before after is made = rw is made
request_made called name at size Absent host object control page events before after is made = rw is made
request_made called name at size Lost host object control page events before after is made = rw is made
request_made called name at size Failed host object control page events before after is made = rw is made

pub return_made : {F : Type 0} (called : Call → F → F → Type 0) (name : List ℕ) (at : ℕ) (bytes : List ℕ) (stored : Bool) (object : ℕ) (page : PageNo)
    (events : List Event) (before after : F)
    → events ≡ told_of stored object page → StoreMakes called name at bytes (Ok stored) before after
    → StoreMakes called name at bytes (Ok (is_stored events)) before after
return_made called name at bytes stored object page events before after is made =
    let same : is_stored events ≡ stored = ap is_stored is ∙ told_stored stored object page in
    rw same made
