use Rattle.std.proofs.Common.{OnOk, ap, arith, false, subst, sym, true, ℕ, ◌++◌, ◌∙◌, ◌≡◌}
use Rattle.std.specs.Prelude.{refl}
use Rattle.vm_kernel.proofs.controls.DestroyTaken.{end_unfailed, none_ended, other_end, queue_other}
use Rattle.vm_kernel.proofs.controls.LockHeeded.{askers_kept, early_answer, none_locked, other_word}
use Rattle.vm_kernel.proofs.controls.StaySaid.{brings_none, heeds_all, none_changed, none_taken, ok_if, other_change, some_buffers, stay_fails, stay_wakes}
use Rattle.vm_kernel.proofs.room.EndsSpend.{roomy_fewer, spends_hand}
use Rattle.vm_kernel.proofs.room.PartsOfStep.{heeds_one}
use Rattle.vm_kernel.proofs.steps.EventsGrow.{each_ok, if_ok, on_ok}
use Rattle.vm_kernel.proofs.steps.FramesInTurn.{unrun}
use Rattle.vm_kernel.specs.Destroying.{is_destroy}
use Rattle.vm_kernel.specs.Plays.{paging}
use Rattle.vm_kernel.specs.Rooms.{IsRoomy, Spends, may_end}
use Rattle.vm_kernel.specs.Taking.{is_attributes, is_lock_request}
use Rattle.vm_objects.specs.Objects.{object_at}
use Rattle.vm_resident.specs.Resident.{row_at}
use Rattle.vm_supply.specs.declared.woken.Woken.TheVariants as who
use Rattle.vm_waits.specs.Waits.{WaitTable}
use Rattle.vm_kernel.proofs.parts.Parts.heed.Goals as goal

pub returns-in_default : goal.returns-in_default
returns-in_default g c =
    record {
      works = c.hear.ensures.works;
      fails = c.hear.ensures.fails;
      fresh = c.hear.ensures.fresh;
      asker = c.hear.ensures.asker;
      answered = c.hear.ensures.answered;
      askers = each_ok c.hear.result _ _ (λ same woken. askers_kept woken c.args.self.now.waits c.hear.new.self.waits same) c.hear.ensures.waits;
      queue =
          on_ok c.hear.result _ _ (λ same. ap (λ (z : WaitTable). z.queue) same
          ∙ sym (queue_other c.args.object.0 c.args.control c.args.message.now c.args.self.now (other_end c.args.message.now c.in_default.not-Destroy)))
          c.hear.ensures.waits;
      goes = c.hear.ensures.goes;
      early = on_ok c.hear.result _ _ (λ brought. early_answer c.hear.new.log.items brought) c.hear.ensures.brought;
      zeroed = c.hear.ensures.zeroed;
      locked = on_ok c.hear.result _ _
          (λ goes. none_locked g.given.header g.given.host g.given.outside g.given.command g.given.past g.given.front c.hear.new.log.items c.args.object
          c.args.control c.args.message.now c.requires.1.0 (other_word c.args.message.now c.in_default.not-Lock) goes)
          c.hear.ensures.goes;
      changed = on_ok c.hear.result _ _
          (λ goes. none_changed g.given.header g.given.host g.given.outside g.given.command g.given.past g.given.front c.hear.new.log.items
          (none_taken g.given.host g.given.past g.given.front c.args.object c.args.control c.args.message.now c.requires.1.0
          (other_change c.args.message.now c.in_default.not-Attributes)) goes)
          c.hear.ensures.goes;
      destroyed = on_ok c.hear.result _ _
          (λ goes. none_ended g.given.header g.given.host g.given.outside g.given.command g.given.past g.given.front c.hear.new.log.items c.args.object
          c.args.control c.args.message.now c.requires.1.0 (other_end c.args.message.now c.in_default.not-Destroy) goes)
          c.hear.ensures.goes;
      plays = c.hear.ensures.plays;
      spends =
          on_ok c.hear.result _ _ (λ is. spends_hand c.args.self.now c.hear.new.self c.args.log.now c.hear.new.log 1 0 _ is
          (heeds_one c.args.message.now c.args.self.now c.args.ids.now)) c.hear.ensures.spends;
      succeeds =
          λ room asks ends marks. c.hear.ensures.succeeds (roomy_fewer _ 0 1 0 c.args.self.now _ room (heeds_one c.args.message.now c.args.self.now
          c.args.ids.now) (omega arith)) marks;
      buffers = on_ok c.hear.result _ _ (λ same asks has. let count = ap (λ z. z.count) same in omega (arith, count, has)) c.hear.ensures.buffers;
      failing = c.hear.ensures.failing;
      dies = c.hear.ensures.dies;
    }

-- a lock request changes no attributes
pub returns-in_ok-obey-in-Lock-clause-changed : goal.returns-in_ok-obey-in-Lock-clause-changed
returns-in_ok-obey-in-Lock-clause-changed g c =
    none_changed g.given.header g.given.host g.given.outside g.given.command g.given.past g.given.front c.obey.new.log.items
    (none_taken g.given.host g.given.past g.given.front c.args.object c.args.control c.args.message.now c.requires.1.0 (ap is_attributes c.in-Lock.is))
    c.in_ok-obey-in-Lock.ensures.goes

-- nor ends it an object
pub returns-in_ok-obey-in-Lock-clause-destroyed : goal.returns-in_ok-obey-in-Lock-clause-destroyed
returns-in_ok-obey-in-Lock-clause-destroyed g c =
    none_ended g.given.header g.given.host g.given.outside g.given.command g.given.past g.given.front c.obey.new.log.items c.args.object c.args.control
    c.args.message.now c.requires.1.0 (ap is_destroy c.in-Lock.is) c.in_ok-obey-in-Lock.ensures.goes

pub returns-in_ok-destroy-in-Destroy-clause-fails : goal.returns-in_ok-destroy-in-Destroy-clause-fails
returns-in_ok-destroy-in-Destroy-clause-fails g c =
    (end_unfailed g.given.header g.given.host g.given.outside g.given.command g.given.past g.given.front c.destroy.new.log.items c.args.object c.args.control
    c.in-Destroy.reason c.args.message.now c.requires.1.0 c.in-Destroy.is c.in_ok-destroy-in-Destroy.ensures.goes).0

pub returns-in_ok-destroy-in-Destroy-clause-zeroed : goal.returns-in_ok-destroy-in-Destroy-clause-zeroed
returns-in_ok-destroy-in-Destroy-clause-zeroed g c =
    (end_unfailed g.given.header g.given.host g.given.outside g.given.command g.given.past g.given.front c.destroy.new.log.items c.args.object c.args.control
    c.in-Destroy.reason c.args.message.now c.requires.1.0 c.in-Destroy.is c.in_ok-destroy-in-Destroy.ensures.goes).1

pub returns-in_ok-destroy-in-Destroy-clause-locked : goal.returns-in_ok-destroy-in-Destroy-clause-locked
returns-in_ok-destroy-in-Destroy-clause-locked g c =
    none_locked g.given.header g.given.host g.given.outside g.given.command g.given.past g.given.front c.destroy.new.log.items c.args.object c.args.control
    c.args.message.now c.requires.1.0 (ap is_lock_request c.in-Destroy.is) c.in_ok-destroy-in-Destroy.ensures.goes

pub returns-in_ok-destroy-in-Destroy-clause-changed : goal.returns-in_ok-destroy-in-Destroy-clause-changed
returns-in_ok-destroy-in-Destroy-clause-changed g c =
    none_changed g.given.header g.given.host g.given.outside g.given.command g.given.past g.given.front c.destroy.new.log.items
    (none_taken g.given.host g.given.past g.given.front c.args.object c.args.control c.args.message.now c.requires.1.0 (ap is_attributes c.in-Destroy.is))
    c.in_ok-destroy-in-Destroy.ensures.goes

pub returns-in_ok-change-in-Attributes : goal.returns-in_ok-change-in-Attributes
returns-in_ok-change-in-Attributes g c =
    let says = c.in_ok-change-in-Attributes.ensures.says in
    let ends = ap may_end c.in-Attributes.is in
    let costs = heeds_all c.args.message.now c.args.self.now c.args.ids.now ends in
    record {
      works = says.works;
      fails = says.unfailed;
      fresh = tt;
      asker = tt;
      answered = record { at = λ o p row found awaits. refl };
      askers = tt;
      queue =
          ap (λ (z : WaitTable). z.queue) says.waits
          ∙ sym (queue_other c.args.object.0 c.args.control c.args.message.now c.args.self.now (ap is_destroy c.in-Attributes.is));
      goes = says.goes;
      early = unrun c.change.new.log.items says.quiet;
      zeroed = says.zeroed;
      locked = says.locked;
      changed = says.changed;
      destroyed = none_ended g.given.header g.given.host g.given.outside g.given.command g.given.past g.given.front c.change.new.log.items c.args.object
          c.args.control c.args.message.now c.requires.1.0 (ap is_destroy c.in-Attributes.is) says.goes;
      plays = record {
        heard = paging c.args.self.now;
        brings = brings_none c.args.object (object_at c.args.self.now.memory.objects c.args.object.0) c.args.control
            (row_at c.args.self.now.memory.resident c.args.object.0) c.args.message.now (paging c.args.self.now) ends;
        plays = says.plays;
      };
      spends = subst (λ (n : ℕ). Spends n 0 0 c.args.self.now c.args.log.now c.change.new.self c.change.new.log) (sym costs)
          c.in_ok-change-in-Attributes.ensures.spends;
      succeeds = λ room asks has marks. refl;
      buffers = λ asks has. some_buffers c.change.new.self (c.in_ok-change-in-Attributes.ensures.buffers has);
      failing = λ key bad. absurd (let clash : who.Nobody ≡ who.Fails key = bad in cc);
      dies = λ key bad. absurd (let clash : who.Nobody ≡ who.Fails key = bad in cc);
    }

pub returns-in_err-change-in-Attributes-clause-succeeds : goal.returns-in_err-change-in-Attributes-clause-succeeds
returns-in_err-change-in-Attributes-clause-succeeds g c = λ room asks has marks.
    let ends = ap may_end c.in-Attributes.is in
    let costs = heeds_all c.args.message.now c.args.self.now c.args.ids.now ends in
    absurd (let bad : false ≡ true = c.in_err-change-in-Attributes.ensures.succeeds
    (subst (λ (n : ℕ). IsRoomy n 0 c.args.self.now c.args.log.now.room) costs room) (has ends) in cc)

pub returns-in-Ready : goal.returns-in-Ready
returns-in-Ready g c =
    let ends = ap may_end c.in-Ready.is in
    let costs = heeds_all c.args.message.now c.args.self.now c.args.ids.now ends in
    record {
      works = if_ok c.ready.result (λ woken says. says.works) c.ready.ensures.says;
      fails = if_ok c.ready.result (λ woken says. stay_fails g.given.header g.given.host (c.ready.new.log.items ++ (g.given.front ++ g.given.past)) woken
          says.wakes says.unfailed) c.ready.ensures.says;
      fresh = if_ok c.ready.result (λ woken says. (stay_wakes woken says.wakes).fresh (c.ready.new.log.items ++ (g.given.front ++ g.given.past)))
          c.ready.ensures.says;
      asker = if_ok c.ready.result (λ woken says. (stay_wakes woken says.wakes).asker c.ready.new.self.waits.rows) c.ready.ensures.says;
      answered = if_ok c.ready.result (λ woken says. (stay_wakes woken says.wakes).answered c.ready.new.self.memory.resident) c.ready.ensures.says;
      askers = if_ok c.ready.result (λ woken says. (stay_wakes woken says.wakes).askers c.args.self.now.waits.rows c.ready.new.self.waits.rows)
          c.ready.ensures.says;
      queue =
          ok_if c.ready.result (λ woken says. ap (λ (z : WaitTable). z.queue) says.waits
          ∙ sym (queue_other c.args.object.0 c.args.control c.args.message.now c.args.self.now (ap is_destroy c.in-Ready.is))) c.ready.ensures.says;
      goes = ok_if c.ready.result (λ woken says. says.goes) c.ready.ensures.says;
      early = ok_if c.ready.result (λ woken says. unrun c.ready.new.log.items says.quiet) c.ready.ensures.says;
      zeroed = ok_if c.ready.result (λ woken says. says.zeroed) c.ready.ensures.says;
      locked = ok_if c.ready.result (λ woken says. says.locked) c.ready.ensures.says;
      changed = ok_if c.ready.result (λ woken says. says.changed) c.ready.ensures.says;
      destroyed = ok_if c.ready.result
          (λ woken says. none_ended g.given.header g.given.host g.given.outside g.given.command g.given.past g.given.front c.ready.new.log.items
          c.args.object c.args.control c.args.message.now c.requires.1.0 (ap is_destroy c.in-Ready.is) says.goes) c.ready.ensures.says;
      plays = ok_if c.ready.result (λ woken says. record {
        heard = paging c.args.self.now;
        brings = brings_none c.args.object (object_at c.args.self.now.memory.objects c.args.object.0) c.args.control
            (row_at c.args.self.now.memory.resident c.args.object.0) c.args.message.now (paging c.args.self.now) ends;
        plays = says.plays;
      }) c.ready.ensures.says;
      spends = subst (λ (n : ℕ). OnOk c.ready.result (Spends n 0 0 c.args.self.now c.args.log.now c.ready.new.self c.ready.new.log)) (sym costs)
          c.ready.ensures.spends;
      succeeds = λ room asks has marks. c.ready.ensures.succeeds (subst (λ (n : ℕ). IsRoomy n 0 c.args.self.now c.args.log.now.room) costs room) marks
          (has ends);
      buffers = on_ok c.ready.result _ _ (λ kept asks has. some_buffers c.ready.new.self (kept has)) c.ready.ensures.buffers;
      failing = if_ok c.ready.result (λ woken says key bad. absurd ((stay_wakes woken says.wakes).unfailed key bad)) c.ready.ensures.says;
      dies = if_ok c.ready.result (λ woken says key bad. absurd ((stay_wakes woken says.wakes).unfailed key bad)) c.ready.ensures.says;
    }
