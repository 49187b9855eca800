-- A kernel matches its history with other lists of pages, buffers and waiting accesses, of which that says nothing but what they fill.
use Rattle.vm_kernel.proofs.memory.CoreChanges.{spaces_refilled}
use Rattle.vm_kernel.proofs.memory.CopiesKept.{copied_same}
use Rattle.vm_kernel.proofs.Common.{Entry, Event, Fit, Header, Ids, List, Matches, Parts, Queues, WaitTable, refl, ℕ, ◌∙◌, ◌≡◌}
use Rattle.vm_base.specs.Buffers.{BufferStore}
use Rattle.vm_state.proofs.Filling.{SameFills}

pub matches_with : {header : Header} {h : ℕ} {k : Parts} {ids : Ids} {lost : List Entry} {past : List Event} (queues : Queues) (buffers : BufferStore)
    (waits : WaitTable) → SameFills k.waits.rows waits.rows → Fit (record k.memory { queues = queues; buffers = buffers })
    → buffers.size ≡ k.memory.buffers.size → Matches header h k ids lost past
    → Matches header h (record k { memory = record k.memory { queues = queues; buffers = buffers }; waits = waits }) ids lost past
matches_with {k = k} queues buffers waits same fit size m =
    record {
      core = record {
        setting = m.core.setting;
        calm = m.core.calm;
        fits = record { parts = fit; plain = m.core.fits.plain; buffers = size ∙ m.core.fits.buffers };
        spaces = spaces_refilled same m.core.spaces;
        objects = m.core.objects;
        copied = copied_same (record { at = λ o. refl }) refl m.core.copied;
        controls = m.core.controls;
        flags = m.core.flags;
        pages = m.core.pages;
      };
      settled = m.settled;
      replied = m.replied;
    }
