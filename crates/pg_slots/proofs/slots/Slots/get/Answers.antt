use Rattle.std.proofs.Common.{◌≡◌, length, ap, ◌∙◌}
use Rattle.pg_slots.proofs.Fitting.{carried_same, given, kept_at, read_told, whole_page}
use Rattle.pg_slots.proofs.slots.Slots.get.Goals as goal
use Rattle.pg_slots.specs.Slots.{SlotTable}

pub returns-clause-bytes : goal.returns-clause-bytes
returns-clause-bytes g c = λ content told fits.
    let shown_size : c.bytes.result ≡ c.args.self.now.size = c.bytes.ensures.value ∙ ap (λ (z : SlotTable). z.size) c.self.view_is in
    let has = kept_at c.self.inside.host.0 c.self.inside.size c.self.inside.rows.rows c.self.inside.free c.args.self.now c.args.key.object.0 c.args.key.page.0
    c.in-Some-Kept.slot c.held.result c.in-Some-Kept.field-0 c.self.view_is c.held.ensures c.in-Some-Kept.is c.in-Some-Kept.field-0-is in
    let read = read_told (g.P.Backing.area c.args.paging.now) (g.P.Backing.area c.read.new.self) c.self.inside.host.0 c.self.inside.size c.self.inside.rows.rows
    c.self.inside.free c.args.self.now c.in-Some-Kept.slot c.place.result c.area_of.result.now c.read.new.buf c.read.result c.is_err.result
    c.self.view_is c.area_of.ensures c.place.ensures c.is_err.ensures.value c.if-is_err.false c.read.ensures.told in
    let long : length c.read.new.buf ≡ c.bytes.result = c.read.auto.buf ∙ (c.deref_mut.ensures.len ∙ c.in_ok-bytes.ensures.len) in
    given (g.P.Backing.area c.args.paging.now) (g.P.Backing.area c.read.new.self) c.args.self.now c.args.key.object.0 c.args.key.page.0 c.in-Some-Kept.slot
    c.read.new.buf c.of.result content has read (long ∙ shown_size)
    (whole_page c.bytes.result c.read.new.buf c.in_ok-bytes.bytes.items c.of.result long (rw c.in_ok-bytes.ensures.len at c.of.ensures)) told fits

pub returns-clause-fits : goal.returns-clause-fits
returns-clause-fits g c = carried_same (g.P.Backing.area c.args.paging.now) (g.P.Backing.area c.read.new.self) c.args.self.now c.read.ensures.told.same
