-- The calls that an answer made, as its events tell them.
use Rattle.std.proofs.Common.{ℕ, ◌≡◌, List, Option, Ok, subst}
use Rattle.pg_default.proofs.Leaving.{became_put}
use Rattle.pg_default.specs.Answers.{became, told_of}
use Rattle.pg_default.specs.Calls.{RequestMakes}
use Rattle.pg_default.specs.Telling.{get_answer_events}
use Rattle.pg_slots.specs.Calls.{GetMakes, PutMakes}
use Rattle.pg_slots.specs.Slots.{SlotTable}
use Rattle.pg_slots.specs.declared.answers.Got.{Got}
use Rattle.pg_slots.specs.declared.answers.Got.TheVariants as got
use Rattle.pg_slots.specs.declared.answers.Put.{Put}
use Rattle.pg_slots.specs.declared.slot_row.Held.{Held}
use Rattle.vm_base.specs.declared.ids.ObjectId.{ObjectId}
use Rattle.vm_base.specs.declared.ids.PageNo.{PageNo}
use Rattle.vm_model.specs.declared.event.Event.{Event}
use Rattle.vm_outside.specs.Calls.{Call}

pub request_made : {P : Type 0} (called : Call → P → P → Type 0) (slots : SlotTable) (has : Option Held) (got : Got) (host : ℕ) (object : ObjectId)
    (control : ℕ) (page : PageNo) (events : List Event) (before after : P)
    → events ≡ get_answer_events got host object control page → GetMakes called slots has (Ok got) before after
    → RequestMakes called slots has events before after
request_made called slots has (got.Page bytes) host object control page events before after is made = rw is made
request_made called slots has got.Never host object control page events before after is made = rw is made
request_made called slots has got.Lost host object control page events before after is made = rw is made
request_made called slots has got.Failed host object control page events before after is made = rw is made

pub return_made : {P : Type 0} (called : Call → P → P → Type 0) (shown slots : SlotTable) (put : Put) (object : ObjectId) (page : PageNo) (bytes : List ℕ)
    (events : List Event) (before after : P)
    → shown ≡ slots → events ≡ told_of put object page → PutMakes called shown object.0 page.0 bytes (Ok put) before after
    → PutMakes called slots object.0 page.0 bytes (Ok (became events)) before after
return_made called shown slots put object page bytes events before after same is made =
    let told : became events ≡ put = became_put put object page events is in
    subst (λ (z : SlotTable). PutMakes called z object.0 page.0 bytes (Ok (became events)) before after) same (rw told made)
