-- What those cause who stand in the server's lines.
use Rattle.std.specs.Prelude.{ℕ, zero, suc, ◌+◌, ◌*◌, List, [], ◌∷◌, length, if◌then◌else◌}
use Rattle.sms_pages.specs.Directory.{is_recalled}
use Rattle.vm_bound.specs.Letters.{host_count, wish_weight}
use Rattle.vm_legal.specs.Outside.{is_shared}
use Rattle.vm_model.specs.Named.{declared_pages, named}
use Rattle.vm_model.specs.PagePart.{page_part}
use Rattle.vm_model.specs.Words.{Act}
use Rattle.vm_model.specs.Server.{Wanting, line}
use Rattle.vm_model.specs.Side.{side}
use Rattle.vm_model.specs.declared.event.Event.{Event}
use Rattle.vm_model.specs.declared.script.Header.{Header}

-- the sum over the numbers below one
abbrev pub sum_below : ℕ → (ℕ → ℕ) → ℕ
sum_below zero weight = 0
sum_below (suc n) weight = weight n + sum_below n weight

-- how many of the hosts below a number the first in line may still have called back
abbrev pub recallable : Wanting → List Act → ℕ → ℕ
recallable w part zero = 0
recallable w part (suc n) = (if is_recalled w n (side n part).holds (side n part).awaits then 1 else 0) + recallable w part n

-- the first in line has its recalls to come, and its answer; each behind it has all of its own
abbrev pub line_weight : ℕ → List Act → List Wanting → ℕ
line_weight hosts part [] = 0
line_weight hosts part (w ∷ ws) = 3 * recallable w part hosts + 3 + wish_weight hosts * length ws

-- a page of a shared object
abbrev pub page_line : Header → ℕ → ℕ → List Event → ℕ
page_line header object page past =
    line_weight (host_count header) (page_part header.size object page past) (line (page_part header.size object page past))

-- all pages of all shared objects
abbrev pub lines : Header → List Event → ℕ
lines header past =
    sum_below (named header) (λ object. if is_shared header object then sum_below (declared_pages header object) (λ page. page_line header object page past) else 0)
