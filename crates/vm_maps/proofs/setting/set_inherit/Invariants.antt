use Rattle.std.proofs.Common.{◌≡◌, ◌∷◌, [], length, reverse}
use Rattle.vm_maps.specs.Rows.{altered}
use Rattle.vm_maps.proofs.setting.set_inherit.Given as goal

abbrev pub invariant-each : goal.invariant-each
invariant-each l = record {
  all : altered (λ row. record row { inherit = l.fn.inherit } ∷ []) l.i l.to (reverse l.entries.items) ≡ altered (λ row. record row { inherit = l.fn.inherit } ∷ []) l.fn.from l.fn.to
      (reverse l.fn.entries.items);
  count : length l.entries.items ≡ length l.fn.entries.items;
  room : l.entries.room ≡ l.fn.entries.room;
}
