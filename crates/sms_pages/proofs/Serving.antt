-- The end of serving, by the front's turn.
use Rattle.std.proofs.Common.{◌≡◌, ◌≤◌, ◌+◌, ℕ, zero, suc, List, [], ◌∷◌, ◌++◌, length, arith, ap, Some, Bool, true, false, if◌then◌else◌}
use Rattle.std.proofs.lemmas.List.{length-append}
use Rattle.std.specs.Prelude.{slice_get, slice_index, slice_set}
use Rattle.vm_model.specs.Server.{Wanting}
use Rattle.sms_pages.specs.declared.holding.Turn.{Turn}
use Rattle.sms_pages.specs.declared.holding.Turn.TheVariants.{Leaves, Recalls, Waits, Grants}
use Rattle.sms_pages.specs.declared.reply.Reply.{Reply}
use Rattle.sms_pages.specs.Directory.{is_recalled, recall, recalled, recalls, turn, grant, granted, Outcome, served}

pub ends_waiting : (sent : List Reply) (holds awaits bytes : List ℕ) (line : List Wanting) (w : Wanting) → slice_get line 0 ≡ Some w
    → turn w holds awaits ≡ Waits → record { holds = holds; awaits = awaits; line = line; replies = sent } ≡ served sent holds awaits bytes line
ends_waiting sent holds awaits bytes [] w front is = absurd (cc)
ends_waiting sent holds awaits bytes (v ∷ ws) w front is = let e : v ≡ w = cc in let at : turn v holds awaits ≡ Waits = rw e is in grind (arith, at)

pub ends_recalling : (sent : List Reply) (holds awaits bytes : List ℕ) (line : List Wanting) (w : Wanting) → slice_get line 0 ≡ Some w
    → turn w holds awaits ≡ Recalls → record {
      holds = holds;
      awaits = recalled w holds awaits 8;
      line = line;
      replies = recalls w holds awaits 8 ++ sent;
    } ≡ served sent holds awaits bytes line
ends_recalling sent holds awaits bytes [] w front is = absurd (cc)
ends_recalling sent holds awaits bytes (v ∷ ws) w front is =
    let e : w ≡ v = cc in let at : turn v holds awaits ≡ Recalls = rw (← e) is in rw e (grind (arith, at))

-- how many replies there are

recalls_few : (w : Wanting) (holds awaits : List ℕ) (n : ℕ) → length (recalls w holds awaits n) ≤ n
recalls_few w holds awaits zero = omega arith
recalls_few w holds awaits (suc n) =
    one (is_recalled w n (slice_index holds n) (slice_index awaits n)) (recall w n) (recalls w holds awaits n) n (recalls_few w holds awaits n) where
      one : (b : Bool) (r : Reply) (rs : List Reply) (n : ℕ) → length rs ≤ n → length (if b then r ∷ rs else rs) ≤ suc n
      one true r rs n le = omega arith
      one false r rs n le = omega arith

pub served_few : (sent : List Reply) (holds awaits bytes : List ℕ) (line : List Wanting)
    → length (served sent holds awaits bytes line).replies ≤ length sent + (length line + 8)
served_few sent holds awaits bytes [] = omega arith
served_few sent holds awaits bytes (w ∷ ws) =
    by_turn (turn w holds awaits) sent holds awaits bytes w ws (served_few sent holds awaits bytes ws)
    (served_few (grant w bytes ∷ sent) (slice_set holds w.host (granted w)) awaits bytes ws) where
      by_turn : (t : Turn) (sent : List Reply) (holds awaits bytes : List ℕ) (w : Wanting) (ws : List Wanting)
          → length (served sent holds awaits bytes ws).replies ≤ length sent + (length ws + 8)
          → length (served (grant w bytes ∷ sent) (slice_set holds w.host (granted w)) awaits bytes ws).replies ≤ length
          (grant w bytes ∷ sent) + (length ws + 8)
          → length (elim t as (λ t. Outcome) [
            | Leaves ↦ served sent holds awaits bytes ws
            | Recalls ↦ record { holds = holds; awaits = recalled w holds awaits 8; line = w ∷ ws; replies = recalls w holds awaits 8 ++ sent }
            | Waits ↦ record { holds = holds; awaits = awaits; line = w ∷ ws; replies = sent }
            | Grants ↦ served (grant w bytes ∷ sent) (slice_set holds w.host (granted w)) awaits bytes ws
          ]).replies ≤ length sent + (length (w ∷ ws) + 8)
      by_turn Leaves sent holds awaits bytes w ws left given = omega arith
      by_turn Recalls sent holds awaits bytes w ws left given =
          let few : length (recalls w holds awaits 8) ≤ 8 = recalls_few w holds awaits 8 in rw (length-append (recalls w holds awaits 8) sent) (omega arith)
      by_turn Waits sent holds awaits bytes w ws left given = omega arith
      by_turn Grants sent holds awaits bytes w ws left given = omega arith

pub replies_few : (sent replies : List Reply) (holds awaits bytes new_holds new_awaits : List ℕ) (line rest : List Wanting)
    → record { holds = new_holds; awaits = new_awaits; line = rest; replies = replies } ≡ served sent holds awaits bytes line
    → length replies ≤ length sent + (length line + 8)
replies_few sent replies holds awaits bytes new_holds new_awaits line rest is =
    let same : replies ≡ (served sent holds awaits bytes line).replies = ap (λ (s : Outcome). s.replies) is in rw same (served_few sent holds awaits bytes line)
