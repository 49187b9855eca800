use Rattle.std.proofs.Common.{◌≡◌, ◌∷◌, [], List, length, reverse, refl, sym, ◌∙◌, ap}
use Rattle.std.proofs.lemmas.List.{length-reverse}
use Rattle.std.proofs.Math.ListN.{length-set}
use Rattle.vm_base.specs.declared.entry.Entry.{Entry}
use Rattle.vm_maps.proofs.Splits.{altered_more}
use Rattle.vm_maps.proofs.setting.set_prot.Goals as goal

pub each-preserved : goal.each-preserved
each-preserved c =
    let becomes : Entry → List Entry = λ row. record row { prot = c.args.prot } ∷ [] in
    let rows = reverse c.each.entries.items in
    let count : length (reverse c.set.new.self.items) ≡ length rows = ap length c.set.ensures.items ∙ length-set rows _ _ in
    record {
      all = rw c.set.ensures.items (altered_more becomes c.each.i c.args.to rows c.at-entry.result.now _ c.at-entry.ensures refl c.each-test.true
          ∙ c.each.invariant.all);
      count = sym (length-reverse c.set.new.self.items) ∙ (count ∙ (length-reverse c.each.entries.items ∙ c.each.invariant.count));
      room = c.set.ensures.room ∙ c.each.invariant.room;
    }
