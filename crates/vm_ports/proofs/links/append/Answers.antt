use Rattle.std.proofs.Common.{◌++◌, ◌∷◌, [], ◌∙◌, ap, refl, Some}
use Rattle.slab.specs.Slab.{get}
use Rattle.vm_ports.specs.Kept.{places}
use Rattle.vm_ports.specs.Nodes.{Place}
use Rattle.vm_ports.specs.declared.links.Links.{Links}
use Rattle.vm_ports.proofs.Walks.{Appends, appended, are_linked, places_are}
use Rattle.vm_ports.proofs.links.append.Goals as goal

pub returns-clause-kept : goal.returns-clause-kept
returns-clause-kept g c =
    let old : Links g.row.M.Denot = c.args.links.now in
    let new : Links g.row.M.Denot = record {
      nodes = c.set_next.new.nodes;
      first = Some c.key_or.result;
      last = Some c.insert_reserved-key.result;
      ends = c.put_ends.new.ends;
    } in
    let e : Place g.row.M.Denot = record { key = c.insert_reserved-key.result; letter = record { channel = c.args.ch; message = c.args.message } } in
    let appends : Appends (places old) e old new = record {
      mid = get c.insert_reserved-key.new.self;
      absent = c.insert_reserved-key.ensures.was_vacant;
      put = c.insert_reserved-key.ensures.updates.changed;
      others = c.insert_reserved-key.ensures.updates.others;
      nodes = λ k. c.set_next.ensures.nodes k ∙ rw (c.set_newer.ensures.nodes k, c.last_of.ensures, c.ends_of-ends.ensures) refl;
      count = c.set_next.ensures.count ∙ c.set_newer.ensures.count ∙ c.insert_reserved-key.ensures.len;
      first = ap (λ z. Some z) c.key_or.ensures;
      last = refl;
      ends = λ o. c.put_ends.ensures.ends o ∙ rw (c.first_or-first.ensures, c.ends_of-ends.ensures) refl;
    } in
    are_linked new _ (appended (places old) e old new c.requires.kept appends)

pub returns-clause-places : goal.returns-clause-places
returns-clause-places g c =
    let old : Links g.row.M.Denot = c.args.links.now in
    let new : Links g.row.M.Denot = record {
      nodes = c.set_next.new.nodes;
      first = Some c.key_or.result;
      last = Some c.insert_reserved-key.result;
      ends = c.put_ends.new.ends;
    } in
    let e : Place g.row.M.Denot = record { key = c.insert_reserved-key.result; letter = record { channel = c.args.ch; message = c.args.message } } in
    let appends : Appends (places old) e old new = record {
      mid = get c.insert_reserved-key.new.self;
      absent = c.insert_reserved-key.ensures.was_vacant;
      put = c.insert_reserved-key.ensures.updates.changed;
      others = c.insert_reserved-key.ensures.updates.others;
      nodes = λ k. c.set_next.ensures.nodes k ∙ rw (c.set_newer.ensures.nodes k, c.last_of.ensures, c.ends_of-ends.ensures) refl;
      count = c.set_next.ensures.count ∙ c.set_newer.ensures.count ∙ c.insert_reserved-key.ensures.len;
      first = ap (λ z. Some z) c.key_or.ensures;
      last = refl;
      ends = λ o. c.put_ends.ensures.ends o ∙ rw (c.first_or-first.ensures, c.ends_of-ends.ensures) refl;
    } in
    places_are new _ (appended (places old) e old new c.requires.kept appends)
    ∙ ap (λ z. places old ++ (record { key = z; letter = record { channel = c.args.ch; message = c.args.message } }) ∷ []) c.insert_reserved-key.ensures.key
