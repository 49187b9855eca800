use Rattle.std.proofs.Common.{◌∙◌, ap, refl, subst, sym, arith}
use Rattle.vm_supply.specs.Answers.{AnswerEffects, AnswerOutcome, unavailable_outcome}
use Rattle.vm_supply.specs.declared.woken.Woken.TheVariants as woken
use Rattle.vm_supply.proofs.Table.{failed, locked_supply, looked, other_supply, unavailable, unlocked_supply}
use Rattle.vm_supply.proofs.answers.answer.Goals as goal

pub returns-in_default-message_act-2 : goal.returns-in_default-message_act-2
returns-in_default-message_act-2 c =
    let at = looked c.args.parts.now c.args.object c.args.control c.in-Supply.page c.in-Some.known c.state_of-state-in-Supply.result c.find.result
    c.get-row-in-Supply.result
    c.find.ensures c.in-Some.is c.get-row-in-Supply.ensures c.state_of-state-in-Supply.ensures in
    let is = other_supply c.args.parts.now c.args.object c.args.control c.in-Supply.page c.in-Some.known c.state_of-state-in-Supply.result c.in-Supply.lock
    c.in-Supply.precious c.in-Supply.hex c.args.message.now c.lock_of-locked.result c.kind_of_supply.result c.message_act-in-Supply.result
    c.requires.fit at c.in-Supply.is c.kind_of_supply.ensures c.message_act-in-Supply.ensures c.in_default-message_act-2.not-PutUnlocked
    c.in_default-message_act-2.not-PutLocked in
    record {
      fit = c.requires.fit;
      answered =
          subst (λ (o : AnswerOutcome). AnswerEffects c.args.host c.args.object o woken.Nobody c.args.parts.now c.args.parts.now c.args.log.now.items
          c.args.log.now.items) (sym is) (refl, refl, refl);
      spare = omega arith;
      buffers = refl;
      err = tt;
      succeeds = λ room marks. refl;
      rooms = (omega arith, omega arith);
    }

pub returns-in-PutUnlocked-clause-answered : goal.returns-in-PutUnlocked-clause-answered
returns-in-PutUnlocked-clause-answered c =
    let at = looked c.args.parts.now c.args.object c.args.control c.in-Supply.page c.in-Some.known c.state_of-state-in-Supply.result c.find.result
    c.get-row-in-Supply.result
    c.find.ensures c.in-Some.is c.get-row-in-Supply.ensures c.state_of-state-in-Supply.ensures in
    let is = unlocked_supply c.args.parts.now c.args.object c.args.control c.in-Supply.page c.in-Some.known c.state_of-state-in-Supply.result c.in-Supply.lock
    c.in-Supply.precious c.in-Supply.hex c.args.message.now c.lock_of-locked.result c.kind_of_supply.result c.message_act-in-Supply.result
    at c.in-Supply.is c.lock_of-locked.ensures c.kind_of_supply.ensures c.message_act-in-Supply.ensures c.in-PutUnlocked.is in
    subst (λ (o : AnswerOutcome). AnswerEffects c.args.host c.args.object o c.supply.result c.args.parts.now c.supply.new.parts c.args.log.now.items
    c.args.log.now.items) (sym is.0)
    (c.supply.ensures.answered c.args.host c.in-Supply.lock c.args.log.now.items is.1)

pub returns-in-PutLocked-clause-answered : goal.returns-in-PutLocked-clause-answered
returns-in-PutLocked-clause-answered c =
    let at = looked c.args.parts.now c.args.object c.args.control c.in-Supply.page c.in-Some.known c.state_of-state-in-Supply.result c.find.result
    c.get-row-in-Supply.result
    c.find.ensures c.in-Some.is c.get-row-in-Supply.ensures c.state_of-state-in-Supply.ensures in
    let is = locked_supply c.args.parts.now c.args.object c.args.control c.in-Supply.page c.in-Some.known c.state_of-state-in-Supply.result c.in-Supply.lock
    c.in-Supply.precious c.in-Supply.hex c.args.message.now c.lock_of-locked.result c.kind_of_supply.result c.message_act-in-Supply.result
    at c.in-Supply.is c.kind_of_supply.ensures c.message_act-in-Supply.ensures c.in-PutLocked.is in
    subst (λ (o : AnswerOutcome). AnswerEffects c.args.host c.args.object o c.supply-in-PutLocked.result c.args.parts.now c.supply-in-PutLocked.new.parts
    c.args.log.now.items c.args.log.now.items) (sym is)
    (c.supply-in-PutLocked.ensures.answered c.args.host c.in-Supply.lock c.args.log.now.items c.lock_of-locked.ensures)

pub returns-in_ok-lack-in-Temp-clause-answered : goal.returns-in_ok-lack-in-Temp-clause-answered
returns-in_ok-lack-in-Temp-clause-answered c =
    let at = looked c.args.parts.now c.args.object c.args.control c.in-Unavailable.page c.in-Some.known c.state_of-state-in-Unavailable.result c.find.result
    c.get-row-in-Unavailable.result
    c.find.ensures c.in-Some.is c.get-row-in-Unavailable.ensures c.state_of-state-in-Unavailable.ensures in
    let is = unavailable c.args.parts.now c.args.object c.args.control c.in-Unavailable.page c.in-Some.known c.state_of-state-in-Unavailable.result
    c.args.message.now c.message_act-in-Unavailable.result
    at c.in-Unavailable.is c.message_act-in-Unavailable.ensures c.in-NoteAbsent.is ∙ ap (λ k. unavailable_outcome k c.in-Unavailable.page) c.in-Temp.is in
    subst (λ (o : AnswerOutcome). AnswerEffects c.args.host c.args.object o c.in_ok-lack-in-Temp.field-0 c.args.parts.now c.lack.new.parts c.args.log.now.items
    c.args.log.now.items) (sym is)
    (c.in_ok-lack-in-Temp.ensures.answered c.args.host c.args.log.now.items)

pub returns-in-Fail-clause-answered : goal.returns-in-Fail-clause-answered
returns-in-Fail-clause-answered c =
    let at = looked c.args.parts.now c.args.object c.args.control c.in-Error.page c.in-Some.known c.state_of-state-in-Error.result c.find.result
    c.get-row-in-Error.result
    c.find.ensures c.in-Some.is c.get-row-in-Error.ensures c.state_of-state-in-Error.ensures in
    let is = failed c.args.parts.now c.args.object c.args.control c.in-Error.page c.in-Some.known c.state_of-state-in-Error.result c.in-Error.reason
    c.args.message.now c.message_act-in-Error.result
    at c.in-Error.is c.message_act-in-Error.ensures c.in-Fail.is in
    subst (λ (o : AnswerOutcome). AnswerEffects c.args.host c.args.object o c.fail.result c.args.parts.now c.fail.new.parts c.args.log.now.items
    c.args.log.now.items) (sym is)
    (c.fail.ensures.answered c.args.host c.args.log.now.items)
