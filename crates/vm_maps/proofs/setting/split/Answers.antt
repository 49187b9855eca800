use Rattle.std.proofs.Common.{◌≡◌, ◌+◌, ◌-◌, ◌/◌, ◌^◌, ◌<◌, ◌≤◌, false, true, length, reverse, None, sym, ◌∙◌, ap, arith}
use Rattle.std.proofs.Math.ListN.{length-set}
use Rattle.std.proofs.lemmas.Bool.{false≢true}
use Rattle.std.proofs.lemmas.List.{length-reverse}
use Rattle.std.specs.Prelude.{slice_get}
use Rattle.vm_maps.specs.Rows.{if_below, passed}
use Rattle.vm_maps.proofs.Multiples.{div_grows}
use Rattle.vm_maps.proofs.Splits.{is_cut, length_split, passed_made, split_made, split_same}
use Rattle.vm_maps.proofs.setting.split.Goals as goal

pub returns-in_default-clause-split : goal.returns-in_default-clause-split
returns-in_default-clause-split c =
    let rows = reverse c.args.entries.now.items in
    let none : if_below c.args.address (slice_get rows (passed c.args.address rows)) ≡ None = rw c.count_passed-at.ensures.value at (sym c.in_default.ensures) in
    sym (split_same c.args.size c.args.address rows c.requires.entries none)

pub overflow_sub-behind : goal.overflow_sub-behind
overflow_sub-behind c =
    let rows = reverse c.args.entries.now.items in
    let cut = is_cut c.args.size c.args.address rows c.in-Some.entry c.requires.entries (rw c.count_passed-at.ensures.value at (sym c.in-Some.ensures)) in
    omega (arith, cut.high)

pub overflow_cast-behind : goal.overflow_cast-behind
overflow_cast-behind c =
    let rows = reverse c.args.entries.now.items in
    let cut = is_cut c.args.size c.args.address rows c.in-Some.entry c.requires.entries (rw c.count_passed-at.ensures.value at (sym c.in-Some.ensures)) in
    let fewer = div_grows c.args.size (c.args.address - c.in-Some.entry.address) c.in-Some.entry.bytes (omega (arith, cut.high)) in
    rw (c.from.ensures ∙ c.bytes.ensures.value) (omega (arith, fewer, cut.pages))

pub overflow_add-behind : goal.overflow_add-behind
overflow_add-behind c =
    let rows = reverse c.args.entries.now.items in
    let cut = is_cut c.args.size c.args.address rows c.in-Some.entry c.requires.entries (rw c.count_passed-at.ensures.value at (sym c.in-Some.ensures)) in
    let fewer = div_grows c.args.size (c.args.address - c.in-Some.entry.address) c.in-Some.entry.bytes (omega (arith, cut.high)) in
    rw (c.from.ensures ∙ c.bytes.ensures.value) (omega (arith, fewer, cut.pages))

pub set-requires : goal.set-requires
set-requires c =
    let rows = reverse c.args.entries.now.items in
    let cut = is_cut c.args.size c.args.address rows c.in-Some.entry c.requires.entries (rw c.count_passed-at.ensures.value at (sym c.in-Some.ensures)) in
    omega (arith, cut.within, c.count_passed-at.ensures.value, length-reverse c.args.entries.now.items)

pub insert-requires : goal.insert-requires
insert-requires c =
    let rows = reverse c.args.entries.now.items in
    let cut = is_cut c.args.size c.args.address rows c.in-Some.entry c.requires.entries (rw c.count_passed-at.ensures.value at (sym c.in-Some.ensures)) in
    let same : length (reverse c.set.new.self.items) ≡ length rows = ap length c.set.ensures.items ∙ length-set rows _ _ in
    omega (arith, cut.within, c.count_passed-at.ensures.value, same, length-reverse c.args.entries.now.items, length-reverse c.set.new.self.items)

pub unreachable-requires : goal.unreachable-requires
unreachable-requires c =
    let rows = reverse c.args.entries.now.items in
    let cut = is_cut c.args.size c.args.address rows c.in-Some.entry c.requires.entries (rw c.count_passed-at.ensures.value at (sym c.in-Some.ensures)) in
    let more = length_split c.args.size c.args.address 0 (2 ^ 32) rows c.requires.entries.in_order (omega arith) in
    let room : 0 < c.set.new.self.room = omega (
      arith,
      more,
      cut.count,
      c.requires.few,
      c.requires.room,
      c.set.ensures.room,
      length-reverse c.args.entries.now.items,
    ) in
    let no : false ≡ true = rw c.in_default-insert.is at (c.insert.ensures.succeeds room) in
    false≢true no

pub returns-clause-split : goal.returns-clause-split
returns-clause-split c =
    let rows = reverse c.args.entries.now.items in
    let cut = is_cut c.args.size c.args.address rows c.in-Some.entry c.requires.entries (rw c.count_passed-at.ensures.value at (sym c.in-Some.ensures)) in
    let size = c.from.ensures ∙ c.bytes.ensures.value in
    split_made c.args.size c.args.address c.count_passed-at.result _ rows (reverse c.set.new.self.items) (reverse c.insert.new.self.items) c.in-Some.entry cut
    c.count_passed-at.ensures.value (ap (λ z. (c.args.address - c.in-Some.entry.address) / z) size) c.set.ensures.items c.in-Ok.ensures.ok

pub returns-clause-value : goal.returns-clause-value
returns-clause-value c =
    let rows = reverse c.args.entries.now.items in
    let cut = is_cut c.args.size c.args.address rows c.in-Some.entry c.requires.entries (rw c.count_passed-at.ensures.value at (sym c.in-Some.ensures)) in
    let size = c.from.ensures ∙ c.bytes.ensures.value in
    let made = split_made c.args.size c.args.address c.count_passed-at.result _ rows (reverse c.set.new.self.items) (reverse c.insert.new.self.items) c.in-Some.entry cut
    c.count_passed-at.ensures.value (ap (λ z. (c.args.address - c.in-Some.entry.address) / z) size) c.set.ensures.items c.in-Ok.ensures.ok in
    rw made (omega (arith, c.count_passed-at.ensures.value, passed_made c.args.size c.args.address rows c.in-Some.entry c.requires.entries cut))
