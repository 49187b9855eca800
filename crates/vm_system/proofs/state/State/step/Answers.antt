use Rattle.vm_system.proofs.Common.{Command, Makes, None, Some, ap, arms, false, none-some, on_err_weaker, on_ok_weaker, refl, refusal, subst, sym, takes_any}
use Rattle.vm_system.proofs.Common.{◌∙◌, ◌≡◌}
use Rattle.vm_model.specs.declared.command.Command.TheVariants as command
use Rattle.vm_model.specs.declared.event.Device.TheVariants as device
use Rattle.vm_system.proofs.Backed.{fit_spared, goes_still, still}
use Rattle.vm_system.proofs.Beginning.{arms_none, arms_refused, causes_same, leaves_armed, leaves_same, leaves_taken_by, on_either, settle_refused}
use Rattle.vm_system.proofs.Growth.{grew_none}
use Rattle.vm_system.proofs.state.State.step.Goals as goal

pub returns-in-Some : goal.returns-in-Some
returns-in-Some g c =
    let refused : refusal g.given.header c.args.self.now.history.items c.args.command.now ≡ Some c.in-Some.code = sym c.refusal.ensures ∙ c.in-Some.is in
    let unarmed_files : arms device.Files c.args.command.now ≡ None = arms_refused device.Files g.given.header c.args.self.now.history.items c.args.command.now
    c.in-Some.code refused in
    let unarmed_paging : arms device.Paging c.args.command.now ≡ None = arms_refused device.Paging g.given.header c.args.self.now.history.items
    c.args.command.now c.in-Some.code refused in
    record {
      made = c.refuse.ensures.made;
      grew = on_either c.refuse.result (λ made. made.grew) (λ still. grew_none _ _ still.1) c.refuse.ensures.made c.refuse.ensures.err;
      err = c.refuse.ensures.err;
      unmoved = on_err_weaker c.refuse.result (λ still. ((refl, refl), (refl, refl))) c.refuse.ensures.err;
      backings = λ start fit. fit_spared _ _ start _ _ _ _ c.refuse.ensures.spares fit;
      alone =
          on_ok_weaker c.refuse.result (λ made count is. absurd (settle_refused g.given.header c.args.self.now.history.items c.args.command.now c.in-Some.code
          refused count is)) c.refuse.ensures.made;
      files =
          on_ok_weaker c.refuse.result (λ made. leaves_same g.given.header device.Files c.args.command.now _ c.args.files.now unarmed_files)
          c.refuse.ensures.made;
      paging =
          on_ok_weaker c.refuse.result (λ made. leaves_same g.given.header device.Paging c.args.command.now _ c.args.paging.now unarmed_paging)
          c.refuse.ensures.made;
      calm = on_err_weaker c.refuse.result (λ still up. (still.1, refl, refl)) c.refuse.ensures.err;
      files_go = goes_still _ _ _ _ (λ unarmed. still g.F.Backing.later g.met.F.Backing.later_same c.args.files.now) c.refuse.ensures.spares.files.devices;
      paging_goes = goes_still _ _ _ _ (λ unarmed. still g.P.Backing.later g.met.P.Backing.later_same c.args.paging.now) c.refuse.ensures.spares.paging.devices;
    }

pub returns-in-Take : goal.returns-in-Take
returns-in-Take g c =
    record {
      made =
          on_ok_weaker c.take_from.result (λ made. subst (λ (z : Command). Makes g.given.header g.given.outside (record { line = c.args.line; command = z })
          c.args.self.now c.take_from.new.self) (sym c.in-Take.is) made) c.take_from.ensures.made;
      grew = c.take_from.ensures.grew;
      err = c.take_from.ensures.err;
      unmoved = c.take_from.ensures.unmoved;
      backings = c.take_from.ensures.backings;
      alone =
          on_ok_weaker c.take_from.result (λ made count same. absurd (let bad : command.Take c.in-Take.channel ≡ command.Settle count = sym c.in-Take.is
          ∙ same in cc)) c.take_from.ensures.made;
      files =
          on_ok_weaker c.take_from.result (λ asked. leaves_taken_by g.given.header device.Files c.args.command.now c.in-Take.channel _ _ _ c.in-Take.is
          c.take_from.ensures.files asked) c.take_from.ensures.files_unasked;
      paging =
          on_ok_weaker c.take_from.result (λ asked. leaves_taken_by g.given.header device.Paging c.args.command.now c.in-Take.channel _ _ _ c.in-Take.is
          c.take_from.ensures.paging asked) c.take_from.ensures.unasked;
      calm = on_err_weaker c.take_from.result (λ calm down. calm (subst (λ (z : Command). takes_any z ≡ false) c.in-Take.is down)) c.take_from.ensures.calm;
      files_go = record { later = λ unarmed. c.take_from.ensures.files_go.later; devices = c.take_from.ensures.files_go.devices };
      paging_goes = record { later = λ unarmed. c.take_from.ensures.paging_goes.later; devices = c.take_from.ensures.paging_goes.devices };
    }

pub returns-in-Settle : goal.returns-in-Settle
returns-in-Settle g c =
    let unarmed_files : arms device.Files c.args.command.now ≡ None = ap (arms device.Files) c.in-Settle.is in
    let unarmed_paging : arms device.Paging c.args.command.now ≡ None = ap (arms device.Paging) c.in-Settle.is in
    record {
      made =
          on_ok_weaker c.settle.result (λ made. subst (λ (z : Command). Makes g.given.header g.given.outside (record { line = c.args.line; command = z })
          c.args.self.now c.settle.new.self) (sym c.in-Settle.is) made) c.settle.ensures.made;
      grew = on_either c.settle.result (λ made. made.grew) (λ still. grew_none _ _ still.1) c.settle.ensures.made c.settle.ensures.err;
      err = c.settle.ensures.err;
      unmoved = on_err_weaker c.settle.result (λ still. ((refl, refl), (refl, refl))) c.settle.ensures.err;
      backings = λ start fit. fit_spared _ _ start _ _ _ _ c.settle.ensures.spares fit;
      alone = on_ok_weaker c.settle.result (λ line count is. line) c.settle.ensures.line;
      files =
          on_ok_weaker c.settle.result (λ made. leaves_same g.given.header device.Files c.args.command.now _ c.args.files.now unarmed_files)
          c.settle.ensures.made;
      paging =
          on_ok_weaker c.settle.result (λ made. leaves_same g.given.header device.Paging c.args.command.now _ c.args.paging.now unarmed_paging)
          c.settle.ensures.made;
      calm = on_err_weaker c.settle.result (λ still up. (still.1, refl, refl)) c.settle.ensures.err;
      files_go = goes_still _ _ _ _ (λ unarmed. still g.F.Backing.later g.met.F.Backing.later_same c.args.files.now) c.settle.ensures.spares.files.devices;
      paging_goes = goes_still _ _ _ _ (λ unarmed. still g.P.Backing.later g.met.P.Backing.later_same c.args.paging.now) c.settle.ensures.spares.paging.devices;
    }

pub returns-in-Clean : goal.returns-in-Clean
returns-in-Clean g c =
    let unarmed_files : arms device.Files c.args.command.now ≡ None = ap (arms device.Files) c.in-Clean.is in
    let unarmed_paging : arms device.Paging c.args.command.now ≡ None = ap (arms device.Paging) c.in-Clean.is in
    record {
      made = c.pass-in-Clean.ensures.made;
      grew = on_either c.pass-in-Clean.result (λ made. made.grew) (λ still. grew_none _ _ still.1) c.pass-in-Clean.ensures.made c.pass-in-Clean.ensures.err;
      err = c.pass-in-Clean.ensures.err;
      unmoved = on_err_weaker c.pass-in-Clean.result (λ still. ((refl, refl), (refl, refl))) c.pass-in-Clean.ensures.err;
      backings = λ start fit. fit_spared _ _ start _ _ _ _ c.pass-in-Clean.ensures.spares fit;
      alone =
          on_ok_weaker c.pass-in-Clean.result (λ made count same. absurd (let bad : command.Clean c.in-Clean.object c.in-Clean.page c.in-Clean.count
          c.in-Clean.flush ≡ command.Settle count = sym c.in-Clean.is ∙ same in cc)) c.pass-in-Clean.ensures.made;
      files =
          on_ok_weaker c.pass-in-Clean.result (λ made. leaves_same g.given.header device.Files c.args.command.now _ c.args.files.now unarmed_files)
          c.pass-in-Clean.ensures.made;
      paging =
          on_ok_weaker c.pass-in-Clean.result (λ made. leaves_same g.given.header device.Paging c.args.command.now _ c.args.paging.now unarmed_paging)
          c.pass-in-Clean.ensures.made;
      calm = on_err_weaker c.pass-in-Clean.result (λ still up. (still.1, refl, refl)) c.pass-in-Clean.ensures.err;
      files_go =
          goes_still _ _ _ _ (λ unarmed. still g.F.Backing.later g.met.F.Backing.later_same c.args.files.now) c.pass-in-Clean.ensures.spares.files.devices;
      paging_goes =
          goes_still _ _ _ _ (λ unarmed. still g.P.Backing.later g.met.P.Backing.later_same c.args.paging.now) c.pass-in-Clean.ensures.spares.paging.devices;
    }

pub returns-in-Cache : goal.returns-in-Cache
returns-in-Cache g c =
    let unarmed_files : arms device.Files c.args.command.now ≡ None = ap (arms device.Files) c.in-Cache.is in
    let unarmed_paging : arms device.Paging c.args.command.now ≡ None = ap (arms device.Paging) c.in-Cache.is in
    record {
      made = c.pass-in-Cache.ensures.made;
      grew = on_either c.pass-in-Cache.result (λ made. made.grew) (λ still. grew_none _ _ still.1) c.pass-in-Cache.ensures.made c.pass-in-Cache.ensures.err;
      err = c.pass-in-Cache.ensures.err;
      unmoved = on_err_weaker c.pass-in-Cache.result (λ still. ((refl, refl), (refl, refl))) c.pass-in-Cache.ensures.err;
      backings = λ start fit. fit_spared _ _ start _ _ _ _ c.pass-in-Cache.ensures.spares fit;
      alone =
          on_ok_weaker c.pass-in-Cache.result (λ made count same. absurd (let bad : command.Cache c.in-Cache.object c.in-Cache.cache ≡ command.Settle
          count = sym c.in-Cache.is ∙ same in cc)) c.pass-in-Cache.ensures.made;
      files =
          on_ok_weaker c.pass-in-Cache.result (λ made. leaves_same g.given.header device.Files c.args.command.now _ c.args.files.now unarmed_files)
          c.pass-in-Cache.ensures.made;
      paging =
          on_ok_weaker c.pass-in-Cache.result (λ made. leaves_same g.given.header device.Paging c.args.command.now _ c.args.paging.now unarmed_paging)
          c.pass-in-Cache.ensures.made;
      calm = on_err_weaker c.pass-in-Cache.result (λ still up. (still.1, refl, refl)) c.pass-in-Cache.ensures.err;
      files_go =
          goes_still _ _ _ _ (λ unarmed. still g.F.Backing.later g.met.F.Backing.later_same c.args.files.now) c.pass-in-Cache.ensures.spares.files.devices;
      paging_goes =
          goes_still _ _ _ _ (λ unarmed. still g.P.Backing.later g.met.P.Backing.later_same c.args.paging.now) c.pass-in-Cache.ensures.spares.paging.devices;
    }

pub returns-in-Say : goal.returns-in-Say
returns-in-Say g c =
    let unarmed_files : arms device.Files c.args.command.now ≡ None = ap (arms device.Files) c.in-Say.is in
    let unarmed_paging : arms device.Paging c.args.command.now ≡ None = ap (arms device.Paging) c.in-Say.is in
    record {
      made = c.pass-in-Say.ensures.made;
      grew = on_either c.pass-in-Say.result (λ made. made.grew) (λ still. grew_none _ _ still.1) c.pass-in-Say.ensures.made c.pass-in-Say.ensures.err;
      err = c.pass-in-Say.ensures.err;
      unmoved = on_err_weaker c.pass-in-Say.result (λ still. ((refl, refl), (refl, refl))) c.pass-in-Say.ensures.err;
      backings = λ start fit. fit_spared _ _ start _ _ _ _ c.pass-in-Say.ensures.spares fit;
      alone =
          on_ok_weaker c.pass-in-Say.result (λ made count same. absurd (let bad : command.Say c.in-Say.host c.in-Say.object c.in-Say.message ≡ command.Settle
          count = sym c.in-Say.is ∙ same in cc)) c.pass-in-Say.ensures.made;
      files =
          on_ok_weaker c.pass-in-Say.result (λ made. leaves_same g.given.header device.Files c.args.command.now _ c.args.files.now unarmed_files)
          c.pass-in-Say.ensures.made;
      paging =
          on_ok_weaker c.pass-in-Say.result (λ made. leaves_same g.given.header device.Paging c.args.command.now _ c.args.paging.now unarmed_paging)
          c.pass-in-Say.ensures.made;
      calm = on_err_weaker c.pass-in-Say.result (λ still up. (still.1, refl, refl)) c.pass-in-Say.ensures.err;
      files_go = goes_still _ _ _ _ (λ unarmed. still g.F.Backing.later g.met.F.Backing.later_same c.args.files.now) c.pass-in-Say.ensures.spares.files.devices;
      paging_goes =
          goes_still _ _ _ _ (λ unarmed. still g.P.Backing.later g.met.P.Backing.later_same c.args.paging.now) c.pass-in-Say.ensures.spares.paging.devices;
    }

pub returns-in_default-command : goal.returns-in_default-command
returns-in_default-command g c =
    let unarmed_files : arms device.Files c.args.command.now ≡ None = arms_none device.Files c.args.command.now c.in_default-command.not-FailFiles
    c.in_default-command.not-FailPaging in
    let unarmed_paging : arms device.Paging c.args.command.now ≡ None = arms_none device.Paging c.args.command.now c.in_default-command.not-FailFiles
    c.in_default-command.not-FailPaging in
    record {
      made = c.begin.ensures.made;
      grew = on_either c.begin.result (λ made. made.grew) (λ still. grew_none _ _ still.1) c.begin.ensures.made c.begin.ensures.err;
      err = c.begin.ensures.err;
      unmoved = on_err_weaker c.begin.result (λ still. ((refl, refl), (refl, refl))) c.begin.ensures.err;
      backings = λ start fit. fit_spared _ _ start _ _ _ _ c.begin.ensures.spares fit;
      alone = on_ok_weaker c.begin.result (λ made count is. absurd (c.in_default-command.not-Settle count is)) c.begin.ensures.made;
      files =
          on_ok_weaker c.begin.result (λ made. leaves_same g.given.header device.Files c.args.command.now _ c.args.files.now unarmed_files)
          c.begin.ensures.made;
      paging =
          on_ok_weaker c.begin.result (λ made. leaves_same g.given.header device.Paging c.args.command.now _ c.args.paging.now unarmed_paging)
          c.begin.ensures.made;
      calm = on_err_weaker c.begin.result (λ still up. (still.1, refl, refl)) c.begin.ensures.err;
      files_go = goes_still _ _ _ _ (λ unarmed. still g.F.Backing.later g.met.F.Backing.later_same c.args.files.now) c.begin.ensures.spares.files.devices;
      paging_goes = goes_still _ _ _ _ (λ unarmed. still g.P.Backing.later g.met.P.Backing.later_same c.args.paging.now) c.begin.ensures.spares.paging.devices;
    }

pub returns-in_ok-pass-in-FailFiles : goal.returns-in_ok-pass-in-FailFiles
returns-in_ok-pass-in-FailFiles g c =
    let armed : arms device.Files c.args.command.now ≡ Some c.in-FailFiles.count = ap (arms device.Files) c.in-FailFiles.is in
    let unarmed : arms device.Paging c.args.command.now ≡ None = ap (arms device.Paging) c.in-FailFiles.is in
    record {
      made = c.in_ok-pass-in-FailFiles.ensures.made;
      grew = c.in_ok-pass-in-FailFiles.ensures.made.grew;
      err = tt;
      unmoved = tt;
      backings = λ start fit. rw c.arm.ensures (fit_spared _ _ start _ _ _ _ c.pass.ensures.spares fit);
      alone = λ count same. absurd (let bad : command.FailFiles c.in-FailFiles.count ≡ command.Settle count = sym c.in-FailFiles.is ∙ same in cc);
      files = leaves_armed g.given.header device.Files c.args.command.now _ c.in-FailFiles.count _ c.args.files.now _ armed c.from.ensures c.arm.ensures;
      paging = leaves_same g.given.header device.Paging c.args.command.now _ c.args.paging.now unarmed;
      calm = tt;
      files_go =
          record {
            later = λ none. absurd (none-some c.in-FailFiles.count (sym none ∙ armed));
            devices = rw c.arm.ensures (causes_same _ _ _ _ c.pass.ensures.spares.files.devices);
          };
      paging_goes = goes_still _ _ _ _ (λ unarmed. still g.P.Backing.later g.met.P.Backing.later_same c.args.paging.now) c.pass.ensures.spares.paging.devices;
    }

pub returns-in_err-pass-in-FailFiles-clause-backings : goal.returns-in_err-pass-in-FailFiles-clause-backings
returns-in_err-pass-in-FailFiles-clause-backings g c = λ start fit. fit_spared _ _ start _ _ _ _ c.pass.ensures.spares fit

pub returns-in_err-pass-in-FailFiles-clause-files_go : goal.returns-in_err-pass-in-FailFiles-clause-files_go
returns-in_err-pass-in-FailFiles-clause-files_go g c =
    goes_still _ _ _ _ (λ unarmed. still g.F.Backing.later g.met.F.Backing.later_same c.args.files.now) c.pass.ensures.spares.files.devices

pub returns-in_err-pass-in-FailFiles-clause-paging_goes : goal.returns-in_err-pass-in-FailFiles-clause-paging_goes
returns-in_err-pass-in-FailFiles-clause-paging_goes g c =
    goes_still _ _ _ _ (λ unarmed. still g.P.Backing.later g.met.P.Backing.later_same c.args.paging.now) c.pass.ensures.spares.paging.devices

pub returns-in_ok-pass-in-FailPaging : goal.returns-in_ok-pass-in-FailPaging
returns-in_ok-pass-in-FailPaging g c =
    let armed : arms device.Paging c.args.command.now ≡ Some c.in-FailPaging.count = ap (arms device.Paging) c.in-FailPaging.is in
    let unarmed : arms device.Files c.args.command.now ≡ None = ap (arms device.Files) c.in-FailPaging.is in
    record {
      made = c.in_ok-pass-in-FailPaging.ensures.made;
      grew = c.in_ok-pass-in-FailPaging.ensures.made.grew;
      err = tt;
      unmoved = tt;
      backings = λ start fit. rw c.arm-in-FailPaging.ensures (fit_spared _ _ start _ _ _ _ c.pass-in-FailPaging.ensures.spares fit);
      alone = λ count same. absurd (let bad : command.FailPaging c.in-FailPaging.count ≡ command.Settle count = sym c.in-FailPaging.is ∙ same in cc);
      files = leaves_same g.given.header device.Files c.args.command.now _ c.args.files.now unarmed;
      paging =
          leaves_armed g.given.header device.Paging c.args.command.now _ c.in-FailPaging.count _ c.args.paging.now _ armed c.from-in-FailPaging.ensures
          c.arm-in-FailPaging.ensures;
      calm = tt;
      files_go =
          goes_still _ _ _ _ (λ unarmed. still g.F.Backing.later g.met.F.Backing.later_same c.args.files.now) c.pass-in-FailPaging.ensures.spares.files.devices;
      paging_goes =
          record {
            later = λ none. absurd (none-some c.in-FailPaging.count (sym none ∙ armed));
            devices = rw c.arm-in-FailPaging.ensures (causes_same _ _ _ _ c.pass-in-FailPaging.ensures.spares.paging.devices);
          };
    }

pub returns-in_err-pass-in-FailPaging-clause-backings : goal.returns-in_err-pass-in-FailPaging-clause-backings
returns-in_err-pass-in-FailPaging-clause-backings g c = λ start fit. fit_spared _ _ start _ _ _ _ c.pass-in-FailPaging.ensures.spares fit

pub returns-in_err-pass-in-FailPaging-clause-files_go : goal.returns-in_err-pass-in-FailPaging-clause-files_go
returns-in_err-pass-in-FailPaging-clause-files_go g c =
    goes_still _ _ _ _ (λ unarmed. still g.F.Backing.later g.met.F.Backing.later_same c.args.files.now) c.pass-in-FailPaging.ensures.spares.files.devices

pub returns-in_err-pass-in-FailPaging-clause-paging_goes : goal.returns-in_err-pass-in-FailPaging-clause-paging_goes
returns-in_err-pass-in-FailPaging-clause-paging_goes g c =
    goes_still _ _ _ _ (λ unarmed. still g.P.Backing.later g.met.P.Backing.later_same c.args.paging.now) c.pass-in-FailPaging.ensures.spares.paging.devices
