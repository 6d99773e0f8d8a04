use Rattle.std.proofs.Common.{rules}
use Rattle.serial_run.proofs.Runs.{part_of_call}
use Rattle.serial_run.proofs.running.answer_call.Goals as goal

pub returns-in-Err-Read-clause-acts : goal.returns-in-Err-Read-clause-acts
returns-in-Err-Read-clause-acts g c = record {
  machine = search rules;
  rest = search rules;
  output = search rules;
  at_read = search rules;
  at_write = search rules;
  reading = search rules;
  writing = search rules;
  unread = search rules;
  sent = λ s m f w. part_of_call c.args.m.now s _ m (c.in-Err-Read.ensures.prefix s.rest s.output w);
}

pub returns-in-Err-Write-clause-acts : goal.returns-in-Err-Write-clause-acts
returns-in-Err-Write-clause-acts g c = record {
  machine = search rules;
  rest = search rules;
  output = search rules;
  at_read = search rules;
  at_write = search rules;
  reading = search rules;
  writing = search rules;
  unread = search rules;
  sent = λ s m f w. part_of_call c.args.m.now s _ m (c.in-Err-Write.ensures.prefix s.rest s.output w);
}
