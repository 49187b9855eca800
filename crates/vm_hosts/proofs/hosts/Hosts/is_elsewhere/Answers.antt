use Rattle.vm_hosts.proofs.Common.{AllRest, HostTable, arith, false, knows_file, length, nat_tests, object_at, subst, sym, true, ◌+◌, ◌<◌, ◌∙◌, ◌≡◌, ◌≢◌}
use Rattle.vm_hosts.proofs.Files.{NoneKnows, known_elsewhere, known_nowhere, none_more}
use Rattle.vm_hosts.proofs.Tables.{found, kernel_of}
use Rattle.vm_hosts.proofs.hosts.Hosts.is_elsewhere.Goals as goal
use Rattle.vm_hosts.proofs.hosts.Hosts.is_elsewhere.Goals.{else-other-host-via-then-other-host+else-knows_file, else-other-host-via-else-other-host}

pub returns-then-knows_file : goal.returns-then-knows_file
returns-then-knows_file g c =
    let hosts : HostTable = record { kernels = c.self.inside.kernels.items; ids = c.self.inside.ids } in
    let all : AllRest g.given.header hosts g.given.past = subst (λ (z : HostTable). AllRest g.given.header z g.given.past) (sym c.self.view_is) c.requires in
    let count = all.count in
    let known : c.search.other < length g.given.header.frames.items = omega (arith, count) in
    let at = found g.given.header hosts g.given.past c.search.other c.index.result.now all known c.index.ensures in
    let test = c.if-other-host.true in
    let apart : c.search.other ≢ c.args.host.0 = λ same. grind (arith, nat_tests, test, same) in
    let knows : knows_file (object_at c.index.result.now.memory.objects c.args.object.0) ≡ true = sym c.knows_file.ensures ∙ c.if-knows_file.true in
    sym (known_elsewhere g.given.header hosts g.given.past c.args.object.0 all c.args.host.0 c.search.other c.index.result.now at.at apart knows)

pub search-preserved : goal.search-preserved
search-preserved g c =
    let hosts : HostTable = record { kernels = c.self.inside.kernels.items; ids = c.self.inside.ids } in
    let all : AllRest g.given.header hosts g.given.past = subst (λ (z : HostTable). AllRest g.given.header z g.given.past) (sym c.self.view_is) c.requires in
    let count = all.count in
    let known : c.search.other < length g.given.header.frames.items = omega (arith, count) in
    let o = c.args.object.0 in
    let h = c.args.host.0 in
    let was : NoneKnows hosts o h c.search.other = subst (λ (z : HostTable). NoneKnows z o h c.search.other) (sym c.self.view_is) c.search.invariant in
    subst (λ (z : HostTable). NoneKnows z o h (c.search.other + 1)) c.self.view_is
    (elim c.else-other-host.branch [
      | else-other-host-via-then-other-host+else-knows_file w ↦
          let at = found g.given.header hosts g.given.past c.search.other w.index.result.now all known w.index.ensures in
          let none : knows_file (object_at w.index.result.now.memory.objects o) ≡ false = sym w.knows_file.ensures ∙ w.if-knows_file.false in
          none_more g.given.header hosts g.given.past o all h c.search.other w.index.result.now at.at (λ apart. none) was
      | else-other-host-via-else-other-host w ↦
          let some = kernel_of g.given.header hosts g.given.past all c.search.other known in
          let test = w.if-other-host.false in
          let same : c.search.other ≡ h = grind (arith, nat_tests, test) in
          none_more g.given.header hosts g.given.past o all h c.search.other some.0 some.1 (λ apart. absurd (apart same)) was
    ])

pub returns : goal.returns
returns g c =
    let hosts : HostTable = record { kernels = c.self.inside.kernels.items; ids = c.self.inside.ids } in
    let all : AllRest g.given.header hosts g.given.past = subst (λ (z : HostTable). AllRest g.given.header z g.given.past) (sym c.self.view_is) c.requires in
    let count = all.count in
    let was : NoneKnows hosts c.args.object.0 c.args.host.0 c.search.other = subst (λ (z : HostTable). NoneKnows z c.args.object.0 c.args.host.0 c.search.other)
    (sym c.self.view_is) c.search.invariant in
    sym (known_nowhere g.given.header hosts g.given.past c.args.object.0 all c.args.host.0 c.search.other (omega (arith, count)) was)
