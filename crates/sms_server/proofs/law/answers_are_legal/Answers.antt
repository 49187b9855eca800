use Rattle.sms_server.proofs.Acting.{others_recall, others_serve, others_stand}
use Rattle.sms_server.proofs.Starting.{start_recalled}
use Rattle.sms_server.proofs.Whole.{causes, recalled, served, stands}
use Rattle.sms_server.proofs.Paying.{paid}
use Rattle.sms_server.proofs.law.answers_are_legal.Goals as goal

pub returns-clause-start_recalled : goal.returns-clause-start_recalled
returns-clause-start_recalled c = start_recalled

pub returns-clause-others : goal.returns-clause-others
returns-clause-others c = others_stand

pub returns-clause-others_served : goal.returns-clause-others_served
returns-clause-others_served c = others_serve

pub returns-clause-others_recalled : goal.returns-clause-others_recalled
returns-clause-others_recalled c = others_recall

pub returns-clause-stands : goal.returns-clause-stands
returns-clause-stands c = stands

pub returns-clause-causes : goal.returns-clause-causes
returns-clause-causes c = causes

pub returns-clause-paid : goal.returns-clause-paid
returns-clause-paid c = paid

pub returns-clause-served : goal.returns-clause-served
returns-clause-served c = served

pub returns-clause-recalled : goal.returns-clause-recalled
returns-clause-recalled c = recalled
