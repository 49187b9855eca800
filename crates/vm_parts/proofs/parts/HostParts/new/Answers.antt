use Rattle.std.proofs.Common.{ap}
use Rattle.vm_parts.proofs.Starting.{fit_new}
use Rattle.vm_parts.proofs.parts.HostParts.new.Goals as goal

-- src/pages.rt:24:5
pub returns : goal.returns
returns c =
    let queues = c.in_ok-queues.ensures in
    record {
      fit =
          fit_new c.args.size c.args.frames (record {
            frames = c.in_ok-frames.frames;
            resident = c.new-3.result;
            queues = c.in_ok-queues.queues;
            objects = c.new-4.result;
            buffers = c.new-5.result;
          })
          c.in_ok-frames.ensures (ap (λ z. z.size) c.new-5.ensures) c.new-3.ensures.rows c.new-3.ensures.frames queues.pages (ap (λ z. z.frames) queues.queues);
      frames_are = c.in_ok-frames.ensures;
      rows = c.new-3.ensures.rows;
      queues = queues.queues;
      objects = c.new-4.ensures.entries;
      absent = c.new-4.ensures.absent;
      buffers = c.new-5.ensures;
    }
