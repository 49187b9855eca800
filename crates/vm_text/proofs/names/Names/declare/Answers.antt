use Rattle.std.proofs.Common.{Some}
use Rattle.std.proofs.lemmas.Map.Text.{btree_map_updates_str}
use Rattle.vm_text.proofs.Named.{declared_more}
use Rattle.vm_text.proofs.names.Names.declare.Goals as goal

pub invariant_of-self-2 : goal.invariant_of-self-2
invariant_of-self-2 c = λ name.
    declared_more c.args.text.now name c.args.object c.self.inside.objects.items c.reserve.new.self.items c.push.new.self.items c.len-place.result _ _
    c.requires c.reserve.ensures.same c.len-place.ensures c.in_ok-push.ensures.ok (c.self.invariant name)
    (btree_map_updates_str c.args.text.now c.self.inside.places c.insert.new.self (Some c.len-place.result) c.in_ok-insert.ensures.updates name)
