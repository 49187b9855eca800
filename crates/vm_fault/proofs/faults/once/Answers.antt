use Rattle.std.proofs.lemmas.Option.{MatchOption-at_some}
use Rattle.std.proofs.Common.{◌≡◌, ◌≤◌, ◌&&◌, ◌∙◌, false, List, ap, sym, refl, subst, arith}
use Rattle.std.specs.Prelude.{OnOk}
use Rattle.vm_base.specs.Buffers.{BufferStore}
use Rattle.vm_base.specs.Entries.{page_at}
use Rattle.vm_base.specs.Pages.{IsPageSize}
use Rattle.vm_base.specs.declared.ids.PageKey.{PageKey}
use Rattle.vm_fault.specs.Faults.{FaultState}
use Rattle.vm_fault.specs.Stops.{CopiesFrom}
use Rattle.vm_fault.specs.Walks.{is_storing, top_place}
use Rattle.vm_fault.specs.declared.running.Running.{Running}
use Rattle.vm_fault.proofs.Runs.{IsTop, WasPrepared, all_faulted, can_go, copies_prepared, leads, offset_is, place_prepared, prepared, ready_place}
use Rattle.vm_frames.specs.Frames.{FrameTable, free}
use Rattle.vm_maps.specs.declared.place.Place.{Place}
use Rattle.vm_model.specs.declared.event.Event.{Event}
use Rattle.vm_resident.specs.Resident.{ResidentTable}
use Rattle.vm_waits.specs.Wants.{IsSizedWant, address_in}
use Rattle.vm_fault.proofs.States.{state_of}
use Rattle.vm_fault.proofs.Taking.{all_taken}
use Rattle.vm_fault.proofs.faults.once.Goals as goal

pub go-requires-clause-can : goal.go-requires-clause-can
go-requires-clause-can c =
    let can = c.requires in
    let want = c.args.want in
    let place = c.find-place.result in
    let maps = c.args.maps.now in
    let task = c.args.task.0 in
    let address = c.address_of-address.result in
    let s : FaultState = state_of c.args.parts.now c.args.chains.now c.args.copies.now c.args.ids.now c.args.log.now.items in
    let mid : FaultState = state_of c.prepare.new.parts c.prepare.new.chains c.args.copies.now c.prepare.new.ids c.prepare.new.log.items in
    let run : Running = record {
      host = c.args.host;
      task = c.args.task;
      want = want;
      may_claim = c.args.may_claim;
      top = c.top_of-top.result.key;
      at = c.offset_of.result;
    } in
    let its : address ≡ address_in maps.size want = c.address_of-address.ensures ∙ ap (λ n. address_in n want) (c.size.ensures ∙ sym can.size) in
    let led = leads maps s task address want place can its c.find-place.ensures in
    let was = subst (λ (z : List Event). WasPrepared want place (record s { events = z }) mid) c.in_ok-reserve.ensures.same
    (c.in_ok-prepare.ensures.ok c.args.copies.now) in
    let prepares = place_prepared maps task want place s mid can led was in
    let ready = prepared (is_storing want && can.row.marked) can.entry.region can.row s mid can.fit can.chains can.region prepares in
    let sizes = ap (λ (z : BufferStore). z.size) ready.buffers in
    let at = offset_is c.offset_of.result address c.size.result c.size-2.result mid.parts.buffers.size want c.offset_of.ensures.value
    c.address_of-address.ensures (c.size.ensures ∙ sym sizes) c.size-2.ensures in
    let key : c.top_of-top.result.key ≡ top_place ready.row (page_at maps.size (address_in maps.size want) can.entry) = MatchOption-at_some _ _ ready.row
    ready.found (subst (λ (z : Place). IsTop z mid c.top_of-top.result.key) led c.top_of-top.ensures.key) in
    let copies = subst (λ (z : PageKey). CopiesFrom want z mid.parts) (sym key) (copies_prepared want can.entry.region can.row
    (page_at maps.size (address_in maps.size want) can.entry) s mid maps.size can.sized can.copies prepares ready.row can.region ready.found) in
    let sized = subst (λ n. IsSizedWant n want) (can.size ∙ sym sizes) can.sized in
    can_go run can.entry.region _ s mid c.top_of-top.result can.row ready c.top_of-top.ensures.stands refl
    (subst IsPageSize c.size-2.ensures c.offset_of.ensures.size)
    at sized copies c.in_ok-prepare.ensures.room

pub top_of-top-requires-clause-there : goal.top_of-top-requires-clause-there
top_of-top-requires-clause-there c =
    (ready_place c.args.maps.now c.args.task.0 c.size.result c.address_of-address.result c.args.want c.find-place.result
    (state_of c.args.parts.now c.args.chains.now c.args.copies.now c.args.ids.now c.args.log.now.items)
    (state_of c.prepare.new.parts c.prepare.new.chains c.args.copies.now c.prepare.new.ids c.prepare.new.log.items)
    c.reserve.new.self.items c.requires c.address_of-address.ensures c.size.ensures c.find-place.ensures c.in_ok-reserve.ensures.same
    (c.in_ok-prepare.ensures.ok c.args.copies.now)).there

pub top_of-top-requires-clause-inside : goal.top_of-top-requires-clause-inside
top_of-top-requires-clause-inside c =
    (ready_place c.args.maps.now c.args.task.0 c.size.result c.address_of-address.result c.args.want c.find-place.result
    (state_of c.args.parts.now c.args.chains.now c.args.copies.now c.args.ids.now c.args.log.now.items)
    (state_of c.prepare.new.parts c.prepare.new.chains c.args.copies.now c.prepare.new.ids c.prepare.new.log.items)
    c.reserve.new.self.items c.requires c.address_of-address.ensures c.size.ensures c.find-place.ensures c.in_ok-reserve.ensures.same
    (c.in_ok-prepare.ensures.ok c.args.copies.now)).inside

pub top_of-top-requires-clause-fits : goal.top_of-top-requires-clause-fits
top_of-top-requires-clause-fits c =
    (ready_place c.args.maps.now c.args.task.0 c.size.result c.address_of-address.result c.args.want c.find-place.result
    (state_of c.args.parts.now c.args.chains.now c.args.copies.now c.args.ids.now c.args.log.now.items)
    (state_of c.prepare.new.parts c.prepare.new.chains c.args.copies.now c.prepare.new.ids c.prepare.new.log.items)
    c.reserve.new.self.items c.requires c.address_of-address.ensures c.size.ensures c.find-place.ensures c.in_ok-reserve.ensures.same
    (c.in_ok-prepare.ensures.ok c.args.copies.now)).fits

pub go-requires-clause-fits : goal.go-requires-clause-fits
go-requires-clause-fits c =
    (ready_place c.args.maps.now c.args.task.0 c.size.result c.address_of-address.result c.args.want c.find-place.result
    (state_of c.args.parts.now c.args.chains.now c.args.copies.now c.args.ids.now c.args.log.now.items)
    (state_of c.prepare.new.parts c.prepare.new.chains c.args.copies.now c.prepare.new.ids c.prepare.new.log.items)
    c.reserve.new.self.items c.requires c.address_of-address.ensures c.size.ensures c.find-place.ensures c.in_ok-reserve.ensures.same
    (c.in_ok-prepare.ensures.ok c.args.copies.now)).fits

pub go-requires-clause-copied : goal.go-requires-clause-copied
go-requires-clause-copied c =
    (ready_place c.args.maps.now c.args.task.0 c.size.result c.address_of-address.result c.args.want c.find-place.result
    (state_of c.args.parts.now c.args.chains.now c.args.copies.now c.args.ids.now c.args.log.now.items)
    (state_of c.prepare.new.parts c.prepare.new.chains c.args.copies.now c.prepare.new.ids c.prepare.new.log.items)
    c.reserve.new.self.items c.requires c.address_of-address.ensures c.size.ensures c.find-place.ensures c.in_ok-reserve.ensures.same
    (c.in_ok-prepare.ensures.ok c.args.copies.now)).copied

pub returns-clause-still : goal.returns-clause-still
returns-clause-still c =
    let ready = ready_place c.args.maps.now c.args.task.0 c.size.result c.address_of-address.result c.args.want c.find-place.result
    (state_of c.args.parts.now c.args.chains.now c.args.copies.now c.args.ids.now c.args.log.now.items)
    (state_of c.prepare.new.parts c.prepare.new.chains c.args.copies.now c.prepare.new.ids c.prepare.new.log.items)
    c.reserve.new.self.items c.requires c.address_of-address.ensures c.size.ensures c.find-place.ensures c.in_ok-reserve.ensures.same
    (c.in_ok-prepare.ensures.ok c.args.copies.now) in
    subst (λ (z : FrameTable). OnOk c.go.result (c.args.may_claim ≡ false → free c.go.new.parts.frames ≡ free z)) ready.frames c.go.ensures.still

pub returns-clause-succeeds : goal.returns-clause-succeeds
returns-clause-succeeds c =
    let ready = ready_place c.args.maps.now c.args.task.0 c.size.result c.address_of-address.result c.args.want c.find-place.result
    (state_of c.args.parts.now c.args.chains.now c.args.copies.now c.args.ids.now c.args.log.now.items)
    (state_of c.prepare.new.parts c.prepare.new.chains c.args.copies.now c.prepare.new.ids c.prepare.new.log.items)
    c.reserve.new.self.items c.requires c.address_of-address.ensures c.size.ensures c.find-place.ensures c.in_ok-reserve.ensures.same
    (c.in_ok-prepare.ensures.ok c.args.copies.now) in
    λ has. c.go.ensures.succeeds (subst (λ (z : ResidentTable). 1 ≤ z.spare) (sym ready.resident) (omega (arith, has.rows)))

pub returns-clause-faulted : goal.returns-clause-faulted
returns-clause-faulted c =
    let can = c.requires in
    let want = c.args.want in
    let place = c.find-place.result in
    let maps = c.args.maps.now in
    let address = c.address_of-address.result in
    let s : FaultState = state_of c.args.parts.now c.args.chains.now c.args.copies.now c.args.ids.now c.args.log.now.items in
    let mid : FaultState = state_of c.prepare.new.parts c.prepare.new.chains c.args.copies.now c.prepare.new.ids c.prepare.new.log.items in
    let run : Running = record {
      host = c.args.host;
      task = c.args.task;
      want = want;
      may_claim = c.args.may_claim;
      top = c.top_of-top.result.key;
      at = c.offset_of.result;
    } in
    let its : address ≡ address_in maps.size want = c.address_of-address.ensures ∙ ap (λ n. address_in n want) (c.size.ensures ∙ sym can.size) in
    let led = leads maps s c.args.task.0 address want place can its c.find-place.ensures in
    let was = subst (λ (z : List Event). WasPrepared want place (record s { events = z }) mid) c.in_ok-reserve.ensures.same
    (c.in_ok-prepare.ensures.ok c.args.copies.now) in
    let ready = prepared (is_storing want && can.row.marked) can.entry.region can.row s mid can.fit can.chains can.region
    (place_prepared maps c.args.task.0 want place s mid can led was) in
    let sizes = ap (λ (z : BufferStore). z.size) ready.buffers in
    let at = offset_is c.offset_of.result address c.size.result c.size-2.result mid.parts.buffers.size want c.offset_of.ensures.value
    c.address_of-address.ensures (c.size.ensures ∙ sym sizes) c.size-2.ensures in
    all_faulted maps run place c.go.result s mid c.go.new.parts c.go.new.copies c.go.new.log.items can led was
    c.top_of-top.ensures.key at c.go.ensures.goes c.go.ensures.plan

pub returns-clause-takes : goal.returns-clause-takes
returns-clause-takes c =
    let old : FaultState = state_of c.args.parts.now c.args.chains.now c.args.copies.now c.args.ids.now c.args.log.now.items in
    let mid : FaultState = state_of c.prepare.new.parts c.prepare.new.chains c.args.copies.now c.prepare.new.ids c.prepare.new.log.items in
    all_taken c.go.result old mid c.reserve.new.self.items c.go.new.parts c.go.new.copies c.go.new.log.items c.args.log.now.room
    c.reserve.new.self.room c.prepare.new.log.room c.go.new.log.room c.in_ok-reserve.ensures.same c.in_ok-reserve.ensures.kept
    (c.in_ok-prepare.ensures.takes c.args.copies.now) c.go.ensures.plan c.go.ensures.takes
