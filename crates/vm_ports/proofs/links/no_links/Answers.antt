use Rattle.std.proofs.Common.{[], None, refl}
use Rattle.vm_ports.specs.declared.links.Links.{Links}
use Rattle.vm_ports.proofs.Walks.{are_linked, places_are}
use Rattle.vm_ports.proofs.links.no_links.Goals as goal

pub returns-clause-kept : goal.returns-clause-kept
returns-clause-kept g c =
    let links : Links g.row.M.Denot = record { nodes = c.new.result; first = None; last = None; ends = c.new-2.result } in
    are_linked links [] (record {
      count = rw c.new.ensures.empty refl;
      nodes = λ key. rw c.new.ensures.empty refl;
      apart = tt;
      first = refl;
      last = refl;
      ends = λ ch. rw c.new-2.ensures.empty refl;
    })

pub returns-clause-places : goal.returns-clause-places
returns-clause-places g c =
    let links : Links g.row.M.Denot = record { nodes = c.new.result; first = None; last = None; ends = c.new-2.result } in
    places_are links [] (record {
      count = rw c.new.ensures.empty refl;
      nodes = λ key. rw c.new.ensures.empty refl;
      apart = tt;
      first = refl;
      last = refl;
      ends = λ ch. rw c.new-2.ensures.empty refl;
    })
