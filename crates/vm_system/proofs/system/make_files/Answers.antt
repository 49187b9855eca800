use Rattle.vm_system.proofs.Common.{arith, named, subst, sym, ℕ, ◌+◌, ◌≡◌}
use Rattle.vm_system.proofs.Starting.{FilesAreMade, files_more, files_serve, no_files, table_is}
use Rattle.vm_system.proofs.system.make_files.Goals as goal

pub objects-init : goal.objects-init
objects-init c = subst (FilesAreMade c.args.header.now 0) (sym c.new-files.ensures.items) (no_files c.args.header.now)

pub objects-preserved : goal.objects-preserved
objects-preserved c =
    subst (FilesAreMade c.args.header.now (c.objects.object + 1)) (sym c.in_ok-push.ensures.items)
    (files_more c.args.header.now c.objects.object c.objects.files.items c.in_ok-pager.pager c.objects.invariant
    (table_is c.args.header.now c.objects.object c.at.result.now c.in_ok-pager.pager c.at.ensures c.in_ok-pager.ensures))

pub returns : goal.returns
returns c =
    let count = c.len-object-end.ensures in
    let test = c.objects-test.false in
    let below = c.objects.auto.object-end in
    let all : c.objects.object ≡ named c.args.header.now = omega (arith, count, test, below) in
    files_serve c.args.header.now c.objects.files.items (subst (λ (n : ℕ). FilesAreMade c.args.header.now n c.objects.files.items) all c.objects.invariant)
