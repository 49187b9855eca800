use Rattle.vm_system.proofs.Common.{refl}
use Rattle.vm_system.proofs.Starting.{new_files_kept, new_kept, new_stands}
use Rattle.vm_system.proofs.system.System.new.Goals as goal

pub make_pagers-requires-clause-few : goal.make_pagers-requires-clause-few
make_pagers-requires-clause-few c = c.requires.few

pub returns-clause-nothing : goal.returns-clause-nothing
returns-clause-nothing c = c.new-6.ensures

pub returns-clause-pagers : goal.returns-clause-pagers
returns-clause-pagers c = c.in_ok-pagers.ensures.numbered

pub returns-clause-stands : goal.returns-clause-stands
returns-clause-stands c = λ outside. new_stands c.args.header.now outside _ (record {
  built = c.requires.built;
  size = refl;
  rests = c.in_ok-hosts.ensures.rests;
  queues = c.in_ok-hosts.ensures.queues;
  numbered = c.in_ok-pagers.ensures.numbered;
  empty = c.in_ok-pagers.ensures.empty;
  files = c.in_ok-files.ensures;
  declared = c.in_ok-declared.ensures;
  server = record { size = c.new-2.ensures.size; rows = c.new-2.ensures.rows };
  channels = c.new-3.ensures.channels;
  letters = c.new-3.ensures.letters;
  made = c.new-4.ensures;
  buffers = c.new-5.ensures;
  history = c.new-6.ensures;
  log = c.new-7.ensures;
})

pub returns-clause-kept : goal.returns-clause-kept
returns-clause-kept c = λ outside areas told. new_kept c.args.header.now outside areas _ (record {
  built = c.requires.built;
  size = refl;
  rests = c.in_ok-hosts.ensures.rests;
  queues = c.in_ok-hosts.ensures.queues;
  numbered = c.in_ok-pagers.ensures.numbered;
  empty = c.in_ok-pagers.ensures.empty;
  files = c.in_ok-files.ensures;
  declared = c.in_ok-declared.ensures;
  server = record { size = c.new-2.ensures.size; rows = c.new-2.ensures.rows };
  channels = c.new-3.ensures.channels;
  letters = c.new-3.ensures.letters;
  made = c.new-4.ensures;
  buffers = c.new-5.ensures;
  history = c.new-6.ensures;
  log = c.new-7.ensures;
}) told

pub returns-clause-files : goal.returns-clause-files
returns-clause-files c = λ outside areas told. new_files_kept c.args.header.now outside areas _ (record {
  built = c.requires.built;
  size = refl;
  rests = c.in_ok-hosts.ensures.rests;
  queues = c.in_ok-hosts.ensures.queues;
  numbered = c.in_ok-pagers.ensures.numbered;
  empty = c.in_ok-pagers.ensures.empty;
  files = c.in_ok-files.ensures;
  declared = c.in_ok-declared.ensures;
  server = record { size = c.new-2.ensures.size; rows = c.new-2.ensures.rows };
  channels = c.new-3.ensures.channels;
  letters = c.new-3.ensures.letters;
  made = c.new-4.ensures;
  buffers = c.new-5.ensures;
  history = c.new-6.ensures;
  log = c.new-7.ensures;
}) told
