-- A slow copy, a page at a time.
use Rattle.std.proofs.Common.{sym, ◌∙◌, inl, inr}
use Rattle.std.proofs.lemmas.Bool.{false≢true}
use Rattle.vm_base.specs.declared.ids.PageKey.{PageKey}
use Rattle.vm_fault.proofs.Descents.{passes_top}
use Rattle.vm_fault.specs.Stops.{CopiesFrom}
use Rattle.vm_fault.specs.Walks.{PassesOver, Sinks}
use Rattle.vm_parts.specs.declared.parts.HostParts.{HostParts}
use Rattle.vm_shadow.specs.Chains.{ChainTable}
use Rattle.vm_waits.specs.Wants.{IsOfNumber}
use Rattle.vm_waits.specs.declared.waiting.Want.{Want}
use Rattle.vm_waits.specs.declared.waiting.Want.TheVariants as want

-- the walk of a slow copy comes to something
passes_told : (parts : HostParts) (top : PageKey) (what : Want) → CopiesFrom what top parts → PassesOver parts top → IsOfNumber what
passes_told parts top (want.Load address size) copies passes = tt
passes_told parts top (want.Store address size value) copies passes = tt
passes_told parts top (want.CopyTo address pages target next) copies passes = elim passes.none [
  | inl without ↦ copies.told passes.row passes.known without
  | inr absent ↦ absurd (false≢true (sym copies.present ∙ absent))
]

pub sinks_none : (parts : HostParts) (chains : ChainTable) (top : PageKey) (what : Want) → CopiesFrom what top parts → Sinks parts chains top → IsOfNumber what
sinks_none parts chains top what copies sinks = passes_told parts top what copies (passes_top parts chains sinks.steps top sinks.last sinks.walks sinks.passes)
