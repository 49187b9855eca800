-- A pageout whose reclaims are cut short, while more could be reclaimed, isn't done.
use Rattle.std.proofs.Common.{◌≡◌, ℕ, ◌+◌, ◌<◌, ◌≤◌, Bool, true, false, List, [], ◌∷◌, ◌++◌, append_assoc, ap, sym, ◌∙◌, subst, arith, inl, inr}
use Rattle.std.specs.Prelude.{◌≢◌, if◌then◌else◌, ◌==◌, ◌&&◌, not}
use Rattle.vm_base.specs.declared.ids.HostId.{HostId}
use Rattle.vm_base.specs.declared.ids.ObjectId.{ObjectId}
use Rattle.vm_base.specs.declared.ids.PageNo.{PageNo}
use Rattle.vm_model.specs.declared.command.Command.TheVariants as command
use Rattle.vm_model.specs.declared.event.Event.{Event}
use Rattle.vm_model.specs.declared.event.Event.TheVariants as event
use Rattle.vm_model.specs.declared.message.Channel.TheVariants.{Up, Down}
use Rattle.vm_model.specs.declared.message.Message.{Message}
use Rattle.vm_model.specs.declared.message.Message.TheVariants as message
use Rattle.vm_model.specs.declared.script.Header.{Header}
use Rattle.vm_legal.specs.Follows.{IsDone}
use Rattle.vm_legal.specs.Prompt.{IsExhausted}
use Rattle.vm_legal.specs.Reclaims.{IsReclaim}
use Rattle.vm_legal.specs.Steps.{departures}
use Rattle.vm_legal.specs.Stretches.{EachOf}

-- an event of a stretch is such

in_middle : (host : ℕ) (later front : List Event) (e : Event) → EachOf (IsReclaim host) (later ++ e ∷ front) → IsReclaim host e
in_middle host [] front e each = each.0
in_middle host (x ∷ later) front e each = in_middle host later front e each.1

of_newer : (host : ℕ) (more first : List Event) → EachOf (IsReclaim host) (more ++ first) → EachOf (IsReclaim host) more
of_newer host [] first each = tt
of_newer host (x ∷ more) first each = (each.0, of_newer host more first each.1)

-- reclaims with which a group begins stand in front of an event that is none
in_front : (host : ℕ) (later front more first : List Event) (e : Event) → later ++ e ∷ front ≡ more ++ first → EachOf (IsReclaim host) first
    → (IsReclaim host e → ⊥) → (rest : List Event) × (front ≡ rest ++ first)
in_front host later front [] first e is each other = absurd (other (in_middle host later front e (subst (EachOf (IsReclaim host)) (sym is) each)))
in_front host [] front (x ∷ more) first e is each other = (more, let same : front ≡ more ++ first = cc in same)
in_front host (y ∷ later) front (x ∷ more) first e is each other =
    let same : later ++ e ∷ front ≡ more ++ first = cc in in_front host later front more first e same each other

-- no page that went comes back

more_if : (b : Bool) (n : ℕ) → n ≤ (if b then n + 1 else n)
more_if true n = omega arith
more_if false n = omega arith

up_gone : (host : ℕ) (at : HostId) (object : ObjectId) (m : Message) (past : List Event)
    → departures host past ≤ departures host (event.Sent (Up at object) m ∷ past)
up_gone host at object (message.Return control page dirty keep bytes) past = more_if (at.0 == host && not keep) (departures host past)
up_gone host at object other past = omega arith

reclaim_gone : (host : ℕ) (e : Event) (past : List Event) → IsReclaim host e → departures host past ≤ departures host (e ∷ past)
reclaim_gone host (event.Line line) past is = absurd is
reclaim_gone host (event.Taken channel m) past is = absurd is
reclaim_gone host (event.Sent (Up at object) m) past is = up_gone host at object m past
reclaim_gone host (event.Sent (Down at object control) m) past is = omega arith
reclaim_gone host (event.Dropped at object page) past is = more_if (at.0 == host) (departures host past)
reclaim_gone host other past is = omega arith

reclaims_gone : (host : ℕ) (more past : List Event) → EachOf (IsReclaim host) more → departures host past ≤ departures host (more ++ past)
reclaims_gone host [] past each = omega arith
reclaims_gone host (e ∷ more) past each =
    let later = reclaims_gone host more past each.1 in let one = reclaim_gone host e (more ++ past) each.0 in omega (arith, later, one)

pub cut_short : (header : Header) (at : HostId) (count : ℕ) (later front past : List Event) (e : Event) → EachOf (IsReclaim at.0) front → (IsReclaim at.0 e → ⊥)
    → departures at.0 (front ++ past) < count
    → ((more first : List Event) → front ≡ more ++ first → IsExhausted header at.0 past (first ++ past) → ⊥)
    → IsDone header (command.Pageout at count) (later ++ e ∷ front) past → ⊥
cut_short header at count later front past e reclaims other few left done =
    let split = in_front at.0 later front done.later done.front e done.is done.reclaims other in
    elim done.enough [
      | inl all ↦
          let each : EachOf (IsReclaim at.0) split.0 = of_newer at.0 split.0 done.front (subst (EachOf (IsReclaim at.0)) split.1 reclaims) in
          let low : departures at.0 (done.front ++ past) ≤ departures at.0 (split.0 ++ (done.front ++ past)) = reclaims_gone at.0 split.0 (done.front ++ past)
          each in
          let same : departures at.0 (front ++ past) ≡ departures at.0 (split.0 ++ (done.front ++ past)) = ap (λ z. departures at.0 (z ++ past)) split.1
          ∙ ap (departures at.0) (append_assoc split.0 done.front past) in
          absurd (omega (arith, low, same, all, few))
      | inr empty ↦ left split.0 done.front split.1 empty
    ]

-- a page of another host that goes
pub of_another : (header : Header) (at other : HostId) (object : ObjectId) (page : PageNo) (count : ℕ) (past : List Event) → other.0 ≢ at.0
    → departures at.0 past < count → (IsExhausted header at.0 past past → ⊥)
    → IsDone header (command.Pageout at count) (event.Dropped other object page ∷ []) past → ⊥
of_another header at other object page count past differs few left = cut_short header at count [] [] past (event.Dropped other object page) tt differs few empty
  where
    empty : (more first : List Event) → [] ≡ more ++ first → IsExhausted header at.0 past (first ++ past) → ⊥
    empty [] [] is exhausted = left exhausted
    empty [] (e ∷ first) is exhausted = absurd (cc)
    empty (e ∷ more) first is exhausted = absurd (cc)
