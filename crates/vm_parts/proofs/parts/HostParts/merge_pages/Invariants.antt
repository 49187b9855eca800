use Rattle.std.proofs.Common.{◌≡◌, ◌+◌, ◌-◌, ◌≤◌}
use Rattle.vm_parts.specs.Fits.{Fit, object_pages}
use Rattle.vm_parts.specs.Merging.{NoneAsked, PagesMerge}
use Rattle.vm_parts.specs.declared.parts.HostParts.{HostParts}
use Rattle.vm_parts.proofs.parts.HostParts.merge_pages.Given as goal

abbrev pub invariant-pages : goal.invariant-pages
invariant-pages l = record {
  fit : Fit l.self;
  here : NoneAsked l.self l.lower.0;
  bound : l.low.pages ≡ object_pages l.fn.self.objects l.lower.0;
  top : l.top.pages ≡ object_pages l.fn.self.objects l.upper.0;
  objects : l.self.objects ≡ l.fn.self.objects;
  buffers : l.self.buffers ≡ l.fn.self.buffers;
  low : l.from.0 ≤ object_pages l.fn.self.objects l.lower.0;
  room : object_pages l.fn.self.objects l.lower.0 ≤ l.self.resident.spare + l.from.0;
  spent : l.fn.self.resident.spare ≤ l.self.resident.spare + l.from.0;
  merge : (end : HostParts) → PagesMerge l.upper l.lower l.shift l.top.pages l.from.0 l.self end
      → PagesMerge l.upper l.lower l.shift l.top.pages 0 l.fn.self end;
}

abbrev pub decreases-pages : goal.decreases-pages
decreases-pages l = object_pages l.fn.self.objects l.lower.0 - l.from.0
