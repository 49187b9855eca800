use Rattle.std.proofs.Common.{refl}
use Rattle.pg_slots.proofs.Choices.{gets, kept_lost, kept_put, no_slot}
use Rattle.pg_slots.proofs.Fitting.{carried_kept, carried_lost, carried_torn}
use Rattle.pg_slots.proofs.Marks.{slot_put}
use Rattle.pg_slots.proofs.slots.Slots.put.Goals as goal
use Rattle.pg_slots.specs.declared.slot_row.Held.TheVariants as held

pub invariant_of-self-in_default : goal.invariant_of-self-in_default
invariant_of-self-in_default g c =
    let none = no_slot c.self.inside.host.0 c.self.inside.size c.self.inside.rows.rows c.self.inside.free c.args.self.now c.args.key.object.0 c.args.key.page.0
    c.self.view_is c.in_default.ensures in
    kept_lost c.self.inside.host.0 c.args.key c.self.inside.rows.rows c.reserve.new.self.rows c.put.new.self.rows c.self.inside.free c.reserve.ensures.rows
    c.put.ensures none c.self.invariant

pub returns-in_default-clause-fits : goal.returns-in_default-clause-fits
returns-in_default-clause-fits g c =
    carried_lost (g.P.Backing.area c.args.paging.now) c.self.inside.host.0 c.self.inside.size c.self.inside.rows.rows c.reserve.new.self.rows
    c.put.new.self.rows c.self.inside.free c.args.self.now c.args.key
    c.self.view_is c.reserve.ensures.rows c.put.ensures

pub hold-requires-clause-may : goal.hold-requires-clause-may
hold-requires-clause-may g c =
    let get = gets c.self.inside.host.0 c.self.inside.size c.self.inside.rows.rows c.self.inside.free c.args.self.now c.args.key c.in-Some.slot c.self.view_is
    c.self.invariant c.in-Some.ensures in
    get.take

pub invariant_of-self-in-Ok : goal.invariant_of-self-in-Ok
invariant_of-self-in-Ok g c =
    let get = gets c.self.inside.host.0 c.self.inside.size c.self.inside.rows.rows c.self.inside.free c.args.self.now c.args.key c.in-Some.slot c.self.view_is
    c.self.invariant c.in-Some.ensures in
    kept_put c.self.inside.host.0 c.args.key (held.Kept c.in-Some.slot) c.in-Some.slot c.self.inside.rows.rows c.reserve.new.self.rows c.hold.new.rows.rows
    c.self.inside.free c.hold.new.free c.reserve.ensures.rows c.hold.ensures.rows refl c.hold.ensures.count c.hold.ensures.taken get c.self.invariant

pub hold-requires-in-Err-Failed-clause-may : goal.hold-requires-in-Err-Failed-clause-may
hold-requires-in-Err-Failed-clause-may g c =
    let get = gets c.self.inside.host.0 c.self.inside.size c.self.inside.rows.rows c.self.inside.free c.args.self.now c.args.key c.in-Some.slot c.self.view_is
    c.self.invariant c.in-Some.ensures in
    get.take

pub invariant_of-self-in-Err-Failed : goal.invariant_of-self-in-Err-Failed
invariant_of-self-in-Err-Failed g c =
    let get = gets c.self.inside.host.0 c.self.inside.size c.self.inside.rows.rows c.self.inside.free c.args.self.now c.args.key c.in-Some.slot c.self.view_is
    c.self.invariant c.in-Some.ensures in
    kept_put c.self.inside.host.0 c.args.key (held.Torn c.in-Some.slot) c.in-Some.slot c.self.inside.rows.rows c.reserve.new.self.rows
    c.hold-in-Err-Failed.new.rows.rows c.self.inside.free c.hold-in-Err-Failed.new.free c.reserve.ensures.rows c.hold-in-Err-Failed.ensures.rows refl
    c.hold-in-Err-Failed.ensures.count c.hold-in-Err-Failed.ensures.taken get c.self.invariant

pub returns-in-Ok-clause-fits : goal.returns-in-Ok-clause-fits
returns-in-Ok-clause-fits g c =
    let get = gets c.self.inside.host.0 c.self.inside.size c.self.inside.rows.rows c.self.inside.free c.args.self.now c.args.key c.in-Some.slot c.self.view_is
    c.self.invariant c.in-Some.ensures in
    carried_kept (g.P.Backing.area c.args.paging.now) (g.P.Backing.area c.write.new.self) c.self.inside.host.0 c.self.inside.size c.self.inside.rows.rows
    c.reserve.new.self.rows c.hold.new.rows.rows c.self.inside.free c.hold.new.free c.args.self.now c.args.key c.in-Some.slot c.args.bytes.now
    c.self.view_is c.reserve.ensures.rows c.hold.ensures.rows c.hold.ensures.count get c.requires
    (rw (c.area_of.ensures, c.place.ensures, c.as_slice.ensures) at c.in-Ok.ensures.told)

pub returns-in-Ok-clause-told : goal.returns-in-Ok-clause-told
returns-in-Ok-clause-told g c = λ s has.
    let same = slot_put c.args.key (held.Kept c.in-Some.slot) c.reserve.new.self.rows c.hold.new.rows.rows c.in-Some.slot s c.hold.ensures.rows refl has in
    rw (← same) (rw (c.area_of.ensures, c.place.ensures, c.as_slice.ensures) at c.in-Ok.ensures.told)

pub returns-in-Err-Failed-clause-fits : goal.returns-in-Err-Failed-clause-fits
returns-in-Err-Failed-clause-fits g c =
    let get = gets c.self.inside.host.0 c.self.inside.size c.self.inside.rows.rows c.self.inside.free c.args.self.now c.args.key c.in-Some.slot c.self.view_is
    c.self.invariant c.in-Some.ensures in
    carried_torn (g.P.Backing.area c.args.paging.now) (g.P.Backing.area c.write.new.self) c.self.inside.host.0 c.self.inside.size c.self.inside.rows.rows
    c.reserve.new.self.rows c.hold-in-Err-Failed.new.rows.rows c.self.inside.free c.hold-in-Err-Failed.new.free c.args.self.now c.args.key c.in-Some.slot
    c.args.bytes.now
    c.self.view_is c.reserve.ensures.rows c.hold-in-Err-Failed.ensures.rows c.hold-in-Err-Failed.ensures.count get c.requires
    (rw (c.area_of.ensures, c.place.ensures, c.as_slice.ensures, c.in-Err-Failed.field-0-is) at c.in-Err-Failed.ensures.told)
