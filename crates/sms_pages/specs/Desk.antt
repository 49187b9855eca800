-- What holds of a directory's state.
use Rattle.std.specs.Prelude.{ℕ, ◌≡◌, ◌+◌, ◌≤◌, Bool, true, false, List, [], ◌∷◌, length, nat_lt, nat_le, ◌&&◌, if◌then◌else◌, slice_index, slice_set}
use Rattle.vm_base.specs.Limits.{most_hosts}
use Rattle.vm_model.specs.Server.{Wanting}
use Rattle.sms_pages.specs.declared.desk.Desk.{Desk}
use Rattle.sms_pages.specs.declared.reply.Reply.{Reply}
use Rattle.sms_pages.specs.Directory.{is_recalled, recall, recall_kind, served}

-- each page has so many bytes
abbrev pub AllLong : ℕ → List (List ℕ) → Type 0
AllLong n [] = Unit {0}
AllLong n (page ∷ pages) = (length page ≡ n) × AllLong n pages

-- all but who is awaited is as it was
pub record IsElsewhereSame (old new : Desk) : Type 0 where
  pub holds : new.holds ≡ old.holds
  pub line : new.line.items ≡ old.line.items
  pub bytes : new.bytes ≡ old.bytes
  pub spare : new.spare.items ≡ old.spare.items

-- whether one more host is recalled, seen from who is awaited `before`
abbrev pub awaits_with : Wanting → ℕ → List ℕ → List ℕ → List ℕ → List ℕ
awaits_with w host holds before awaits =
    if is_recalled w host (slice_index holds host) (slice_index before host) then slice_set awaits host (recall_kind w) else awaits

abbrev pub replies_with : Wanting → ℕ → List ℕ → List ℕ → List Reply → List Reply
replies_with w host holds before replies =
    if is_recalled w host (slice_index holds host) (slice_index before host) then recall w (host) ∷ replies else replies

-- what is left to serve, with what was sent, comes to the same as before; or it has come to its end
abbrev pub DeskServes : Bool → Desk → List Reply → Desk → List Reply → Type 0
DeskServes true old sent new replies =
    served replies new.holds new.awaits new.bytes new.line.items
    ≡ served sent old.holds old.awaits old.bytes old.line.items
DeskServes false old sent new replies =
    record { holds = new.holds; awaits = new.awaits; line = new.line.items; replies = replies }
    ≡ served sent old.holds old.awaits old.bytes old.line.items

-- a page for each that waits, and room for the replies to them and eight more
pub record HasRoom (d : Desk) (room : ℕ) : Type 0 where
  pub pages : length d.line.items ≤ length d.spare.items
  pub replies : length d.line.items + most_hosts ≤ room

-- the memory that a call takes is at hand: a place in the line, a page for each that then waits, and room for replies
abbrev pub is_prepared : ℕ → ℕ → ℕ → ℕ → Bool
is_prepared waiting places pages room =
    nat_lt waiting places && (nat_lt waiting pages && (nat_le (waiting + 9) room && nat_le waiting 4294967280))
