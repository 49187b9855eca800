use Rattle.std.proofs.Common.{◌≡◌, ◌+◌, ◌∙◌, ◌∷◌, ◌++◌, [], ap, sym, subst, List, ℕ, length, length-append}
use Rattle.std.specs.Prelude.{slice_get}
use Rattle.vm_base.specs.declared.ids.HostId.{HostId}
use Rattle.sms_proto.specs.declared.kernel.Kernel.{Kernel}
use Rattle.sms_proto.specs.Worlds.{StandsAt}
use Rattle.sms_proto.proofs.Starting.{pushed_each}
use Rattle.sms_proto.proofs.world.make_kernels.Goals as goal

pub loop-host-preserved : goal.loop-host-preserved
loop-host-preserved c =
    let items : c.push.new.self.items ≡ c.loop-host.kernels.items ++ c.in_ok-new.field-0 ∷ [] = c.in_ok-push.ensures.items in
    record {
      each =
          subst (λ (ks : List Kernel). (g : ℕ) → StandsAt c.args.size g [] (slice_get ks g)) (sym items)
          (pushed_each c.args.size c.loop-host.kernels.items c.in_ok-new.field-0 c.loop-host.invariant.each
          (record {
            same_host = ap (λ (h : HostId). h.0) c.in_ok-new.ensures.same.0 ∙ sym c.loop-host.invariant.count;
            same_size = c.in_ok-new.ensures.same.1;
            fits = c.in_ok-new.ensures.fits;
            prompt = c.in_ok-new.ensures.prompt;
          }));
      count =
          ap (λ (ks : List Kernel). length ks) items ∙ (length-append c.loop-host.kernels.items (c.in_ok-new.field-0 ∷ [])
          ∙ ap (λ (n : ℕ). n + 1) c.loop-host.invariant.count);
    }
