-- The sum is at most the bound.
use Rattle.std.proofs.Common.{ℕ, zero, suc, ◌≤◌, ◌≡◌, ◌+◌, ◌*◌, Bool, true, false, List, [], ◌∷◌, Option, Some, None, arith, refl}
use Rattle.std.proofs.Math.Nat.{add-mul, mul-add, mul_assoc, mul_comm}
use Rattle.std.specs.Prelude.{◌==◌, ◌&&◌, ◌||◌, length, if◌then◌else◌, max, nat_lt, not}
use Rattle.vm_base.specs.Limits.{most_tasks}
use Rattle.vm_base.specs.declared.entry.Entry.{Entry}
use Rattle.vm_bound.proofs.Distinct.{one_chain, one_host, one_page, pages_none, pages_sum, places_both, places_lower, places_none, places_sum, places_swapped}
use Rattle.vm_bound.proofs.Distinct.{sum_both, sum_lower, weigh}
use Rattle.vm_bound.specs.Accesses.{access_weight, accesses, any_wants, any_writes, entry_weight, has_place, is_wanted, is_wanted_to_write}
use Rattle.vm_bound.specs.Accesses.{later_weight, leads_at, led, left_weight, page_led, pages_left, present_weight, read_weight, turn_weight, wants, wants_as}
use Rattle.vm_bound.specs.Accesses.{weight_of, writes, writes_as}
use Rattle.vm_bound.specs.Bound.{PagesAreDeclared, bound, counts, deepest, deepest_below, letter_count, message_count, pages_waiting, pending, places_of}
use Rattle.vm_bound.specs.Bound.{places_waiting, sum, undelivered_count, waiting_count}
use Rattle.vm_bound.specs.Letters.{host_count, letter_weight, letters, message_weight, object_on, weights}
use Rattle.vm_bound.specs.Lines.{line_weight, lines, page_line, recallable, sum_below}
use Rattle.vm_bound.specs.Places.{asked_for, is_open, place_weight, places, write_turns}
use Rattle.vm_legal.specs.Accesses.{names}
use Rattle.vm_legal.specs.Living.{lives_on}
use Rattle.vm_legal.specs.Outside.{is_shared, is_wild}
use Rattle.vm_legal.specs.Steps.{Letter}
use Rattle.vm_legal.specs.Undelivered.{undelivered}
use Rattle.vm_legal.specs.Walks.{page_on, sight}
use Rattle.vm_model.specs.Local.{Local}
use Rattle.vm_model.specs.Named.{declared_pages, named}
use Rattle.vm_model.specs.PagePart.{page_part}
use Rattle.vm_model.specs.Regions.{backing_of, next_object, object_pages, region_of}
use Rattle.sms_pages.specs.Directory.{is_recalled}
use Rattle.vm_model.specs.Server.{Wanting, line}
use Rattle.vm_model.specs.Side.{side}
use Rattle.vm_model.specs.Tasks.{host_of}
use Rattle.vm_model.specs.Waiting.{Access, Copying, Loading, Storing, is_store, next_page, waiting}
use Rattle.vm_model.specs.Words.{Act}
use Rattle.vm_model.specs.declared.event.Event.{Event}
use Rattle.vm_model.specs.declared.message.Message.{Message}
use Rattle.vm_model.specs.declared.message.Message.TheVariants as message
use Rattle.vm_model.specs.declared.script.Header.{Header}

-- the letters

-- the factor of the bound
abbrev factor : ℕ → ℕ
factor hosts = 3 * hosts + 4

four : (n hosts : ℕ) → 4 * n ≤ n * factor hosts
four n hosts = let parts = mul-add n (3 * hosts) 4 in omega (arith, parts)

by_four : (n hosts w : ℕ) → w ≤ 4 * n → w ≤ n * factor hosts
by_four n hosts w le = let all = four n hosts in omega (arith, le, all)

message_bounded : (hosts : ℕ) (shared : Bool) (pages most : ℕ) (m : Message) → pages ≤ most
    → message_weight hosts shared pages m ≤ message_count most m * factor hosts
message_bounded hosts shared pages most (message.Init control size) le = by_four (most + 1) hosts (pages + 4) (omega (arith, le))
message_bounded hosts shared pages most (message.Create control size) le = by_four (most + 1) hosts (pages + 4) (omega (arith, le))
message_bounded hosts shared pages most (message.Ready cache strategy) le = by_four (most + 1) hosts (pages + 3) (omega (arith, le))
message_bounded hosts shared pages most (message.Attributes cache strategy reply) le = by_four (most + 1) hosts (pages + 3) (omega (arith, le))
message_bounded hosts true pages most (message.Request control page access) le = omega arith
message_bounded hosts false pages most (message.Request control page access) le = omega arith
message_bounded hosts true pages most (message.Unlock control page access) le = omega arith
message_bounded hosts false pages most (message.Unlock control page access) le = omega arith
message_bounded hosts true pages most (message.Lock page count returns flush lock reply) le = by_four (count + 1) hosts (count + 2) (omega arith)
message_bounded hosts false pages most (message.Lock page count returns flush lock reply) le = by_four (count + 1) hosts (3 * count + 2) (omega arith)
message_bounded hosts shared pages most (message.Destroy reason) le = omega arith
message_bounded hosts shared pages most (message.Return control page dirty keep bytes) le = omega arith
message_bounded hosts shared pages most (message.Completed control page count) le = omega arith
message_bounded hosts shared pages most (message.Changed control cache strategy) le = omega arith
message_bounded hosts shared pages most (message.Terminate control) le = omega arith
message_bounded hosts shared pages most (message.Supply page lock precious bytes) le = omega arith
message_bounded hosts shared pages most (message.Unavailable page) le = omega arith
message_bounded hosts shared pages most (message.Error page reason) le = omega arith

-- two that are bounded are bounded together
both_bounded : (k a b m n : ℕ) → a ≤ m * k → b ≤ n * k → a + b ≤ (m + n) * k
both_bounded k a b m n one two = let parts = add-mul m n k in omega (arith, one, two, parts)

letters_bounded : (header : Header) (past : List Event) (all : List Letter) → PagesAreDeclared header past
    → weights header all ≤ counts header past all * factor (host_count header)
letters_bounded header past [] declared = omega arith
letters_bounded header past (letter ∷ rest) declared =
    both_bounded (factor (host_count header)) (letter_weight header letter) (weights header rest) (letter_count header past letter) (counts header past rest)
    (message_bounded (host_count header) (is_shared header (object_on letter.channel)) (declared_pages header (object_on letter.channel))
    (object_pages header (object_on letter.channel) past) letter.message (declared (object_on letter.channel)))
    (letters_bounded header past rest declared)

-- the lines

recallable_few : (w : Wanting) (part : List Act) (n : ℕ) → recallable w part n ≤ n
recallable_few w part zero = omega arith
recallable_few w part (suc n) = let rest = recallable_few w part n in by (is_recalled w n (side n part).holds (side n part).awaits) rest
  where
    by : (b : Bool) → recallable w part n ≤ n → (if b then 1 else 0) + recallable w part n ≤ suc n
    by true le = omega (arith, le)
    by false le = omega (arith, le)

line_bounded : (hosts : ℕ) (part : List Act) (ws : List Wanting) → line_weight hosts part ws ≤ length ws * factor hosts
line_bounded hosts part [] = omega arith
line_bounded hosts part (w ∷ ws) =
    let few = recallable_few w part hosts in
    let parts = add-mul 1 (length ws) (factor hosts) in
    let rest = mul-add (length ws) (3 * hosts) 4 in
    let turned = mul_comm (length ws) (3 * hosts) in
    omega (arith, few, parts, rest, turned)

-- sums over numbers
sums_bounded : (n k : ℕ) (weight count : ℕ → ℕ) → ((i : ℕ) → weight i ≤ count i * k) → sum_below n weight ≤ sum_below n count * k
sums_bounded zero k weight count each = omega arith
sums_bounded (suc n) k weight count each =
    both_bounded k (weight n) (sum_below n weight) (count n) (sum_below n count) (each n) (sums_bounded n k weight count each)

lines_bounded : (header : Header) (past : List Event) → lines header past ≤ pending header past * factor (host_count header)
lines_bounded header past =
    sums_bounded (named header) (factor (host_count header)) _ _ (λ object. by (is_shared header object) object
    (sums_bounded (declared_pages header object) (factor (host_count header)) (λ page. page_line header object page past)
    (λ page. length (line (page_part header.size object page past))) (λ page. line_bounded (host_count header) (page_part header.size object page past)
    (line (page_part header.size object page past)))))
  where
    by : (b : Bool) (object : ℕ) → sum_below (declared_pages header object) (λ page. page_line header object page past)
        ≤ sum_below (declared_pages header object) (λ page. length (line (page_part header.size object page past))) * factor (host_count header)
        → (if b then sum_below (declared_pages header object) (λ page. page_line header object page past) else 0)
        ≤ (if b then sum_below (declared_pages header object) (λ page. length (line (page_part header.size object page past))) else 0)
        * factor (host_count header)
    by true object le = le
    by false object le = omega arith

-- what an access weighs by itself

-- of an access with so many pages left, whose page has at most so many places
abbrev span : ℕ → ℕ → ℕ
span depth hosts = (depth + 4) * factor hosts

span_wide : (depth hosts : ℕ) → 2 * depth + 2 * (3 * hosts + 1) + 4 ≤ span depth hosts
span_wide depth hosts =
    let parts = add-mul depth 4 (factor hosts) in
    let more = four depth hosts in
    omega (arith, parts, more)

turns_narrow : (depth hosts : ℕ) → 2 * (3 * hosts + 1) ≤ span depth hosts
turns_narrow depth hosts = let parts = add-mul depth 4 (factor hosts) in omega (arith, parts)

times : (a b k : ℕ) → a ≤ k → a * b ≤ b * k
times a zero k le = let none = mul_comm a 0 in omega (arith, none)
times a (suc b) k le =
    let rest = times a b k le in
    let one = mul-add a 1 b in
    let parts = add-mul 1 b k in
    omega (arith, le, rest, one, parts)

-- a page that is to be read costs two turns; a store doesn't read, but may cost as much at the page that it writes
read_bounded : (header : Header) (page : Local) → read_weight header page ≤ 2 * turn_weight header
read_bounded header page = by (page.here || page.asked)
  where
    by : (b : Bool) → (if b then 0 else 2 * turn_weight header) ≤ 2 * turn_weight header
    by true = omega arith
    by false = omega arith

present_bounded : (header : Header) (h : ℕ) (access : Access) (region page : ℕ) (past : List Event)
    → present_weight header h access region page past ≤ weigh (not (is_store access)) (2 * turn_weight header)
present_bounded header h access region page past = by (is_shared header region) (is_store access) (read_bounded header (page_on header h region page past))
  where
    by : (shared store : Bool) → read_weight header (page_on header h region page past) ≤ 2 * turn_weight header
        → (if shared && not store then read_weight header (page_on header h region page past) else 0) ≤ weigh (not store) (2 * turn_weight header)
    by true true le = omega arith
    by true false le = le
    by false true le = omega arith
    by false false le = omega arith

-- the most that an access weighs by itself, with so many pages left
abbrev own_most : Header → Access → ℕ → ℕ
own_most header access zero = 0
own_most header access (suc later) = 4 + weigh (not (is_store access)) (2 * turn_weight header) + later_weight header access later

own_bounded : (header : Header) (task : ℕ) (access : Access) (host : Option ℕ) (past : List Event)
    → weight_of header task (Some access) host past ≤ own_most header access (pages_left header.size access (next_page task past))
own_bounded header task access None past = omega arith
own_bounded header task access (Some host) past = by (led header task access past)
  where
    left : (entry : Entry) (k : ℕ) → left_weight header task host access entry k past ≤ own_most header access k
    left entry zero = omega arith
    left entry (suc later) =
        let most = present_bounded header host access entry.region.0 (page_led header task access past entry) past in omega (arith, most)

    by : (entry : Option Entry)
        → entry_weight header task host access entry past ≤ own_most header access (pages_left header.size access (next_page task past))
    by None = omega arith
    by (Some entry) = left entry (pages_left header.size access (next_page task past))

-- what one access wants at the places

-- any access that waits
abbrev every : Access → Bool
every access = true

abbrev pages_at : Header → List Event → ℕ → ℕ
pages_at header past o = object_pages header o past

abbrev all_places : Header → List Event → (ℕ → ℕ → ℕ → ℕ) → ℕ
all_places header past weight = places_sum (host_count header) (next_object header past) (pages_at header past) weight

abbrev all_pages : Header → List Event → (ℕ → ℕ → ℕ) → ℕ
all_pages header past weight = pages_sum (next_object header past) (pages_at header past) weight

nowhere : (header : Header) (past : List Event) → all_places header past (λ h o p. 0) ≤ 0
nowhere header past = places_none (host_count header) (next_object header past) (pages_at header past) (λ h o p. 0) (λ h o p. omega arith)

no_page : (header : Header) (past : List Event) → all_pages header past (λ o p. 0) ≤ 0
no_page header past = pages_none (next_object header past) (pages_at header past) (λ o p. 0) (λ o p. omega arith)

-- the places of the chain of its page
chain_wanted : (header : Header) (task : ℕ) (access : Access) (entry : Option Entry) (past : List Event)
    → all_pages header past (λ o p. weigh (has_place header task access o p entry past) 2) ≤ 2 * places_of header entry past
chain_wanted header task access None past = let none = no_page header past in omega (arith, none)
chain_wanted header task access (Some entry) past =
    one_chain (next_object header past) (pages_at header past) (λ k. backing_of header k past) (next_object header past)
    (region_of header entry.region.0 past).top ((region_of header entry.region.0 past).shift + page_led header task access past entry)

access_wants : (header : Header) (task : ℕ) (access : Access) (past : List Event)
    → all_places header past (λ h o p. weigh (wants_as header every task h o p (Some access) past) 2)
    ≤ weigh (nat_lt 0 (pages_left header.size access (next_page task past))) (2 * places_of header (led header task access past) past)
access_wants header task access past =
    one_host (host_count header) (next_object header past) (pages_at header past) (host_of task past)
    (λ o p. nat_lt 0 (pages_left header.size access (next_page task past)) && has_place header task access o p (led header task access past) past) 2
    (weigh (nat_lt 0 (pages_left header.size access (next_page task past))) (2 * places_of header (led header task access past) past))
    (by (nat_lt 0 (pages_left header.size access (next_page task past))))
  where
    by : (b : Bool) → all_pages header past (λ o p. weigh (b && has_place header task access o p (led header task access past) past) 2)
        ≤ weigh b (2 * places_of header (led header task access past) past)
    by true = chain_wanted header task access (led header task access past) past
    by false = no_page header past

-- the page that it writes
page_written : (header : Header) (task : ℕ) (access : Access) (w : ℕ) (entry : Option Entry) (past : List Event)
    → all_pages header past (λ o p. weigh (leads_at header task access o p entry past) w) ≤ w
page_written header task access w None past = let none = no_page header past in omega (arith, none)
page_written header task access w (Some entry) past =
    one_page (next_object header past) (pages_at header past) entry.region.0 (page_led header task access past entry) w

access_writes : (header : Header) (task : ℕ) (access : Access) (w : ℕ) (past : List Event)
    → all_places header past (λ h o p. weigh (writes_as header task h o p (Some access) past) w) ≤ weigh (is_store access) w
access_writes header task access w past = by (is_store access)
  where
    by : (b : Bool)
        → all_places header past (λ h o p. weigh (b && (lives_on h task past && leads_at header task access o p (led header task access past) past)) w)
        ≤ weigh b w
    by true =
        one_host (host_count header) (next_object header past) (pages_at header past) (host_of task past)
        (λ o p. leads_at header task access o p (led header task access past) past) w w (page_written header task access w (led header task access past) past)
    by false = nowhere header past

-- an access, with all that it wants

-- each page that is left pays for what its access may send there
later_bounded : (header : Header) (access : Access) (later depth : ℕ) → later_weight header access later ≤ later * span depth (host_count header)
later_bounded header (Loading address bytes) later depth = omega arith
later_bounded header (Storing address bytes value) later depth = omega arith
later_bounded header (Copying address bytes to) later depth =
    times (2 * turn_weight header) later (span depth (host_count header)) (turns_narrow depth (host_count header))

cost_bounded : (header : Header) (access : Access) (present wanted written depth later : ℕ) → present + written ≤ 2 * turn_weight header
    → wanted ≤ 2 * depth
    → 4 + present + later_weight header access later + (wanted + written) ≤ suc later * span depth (host_count header)
cost_bounded header access present wanted written depth later one two =
    let wide = span_wide depth (host_count header) in
    let rest = later_bounded header access later depth in
    let parts = add-mul 1 later (span depth (host_count header)) in
    omega (arith, one, two, wide, rest, parts)

at_most : (b : Bool) (w : ℕ) → weigh b w ≤ w
at_most true w = omega arith
at_most false w = omega arith

pages_bounded : (header : Header) (access : Access) (own wanted written count depth k : ℕ) → count ≤ depth
    → own ≤ own_most header access k → wanted ≤ weigh (nat_lt 0 k) (2 * count) → written ≤ weigh (is_store access) (2 * turn_weight header)
    → (is_store access ≡ true → k ≡ 1)
    → own + (wanted + written) ≤ k * span depth (host_count header)
pages_bounded header (Storing address bytes value) own wanted written count depth zero le one two three store = absurd (cc (store refl))
pages_bounded header (Loading address bytes) own wanted written count depth zero le one two three store = omega (arith, one, two, three)
pages_bounded header (Copying address bytes to) own wanted written count depth zero le one two three store = omega (arith, one, two, three)
pages_bounded header (Loading address bytes) own wanted written count depth (suc later) le one two three store =
    let any = at_most (nat_lt 0 (suc later)) (2 * count) in
    let few : 2 * turn_weight header + written ≤ 2 * turn_weight header = omega (arith, three) in
    let most = cost_bounded header (Loading address bytes) (2 * turn_weight header) wanted written depth later few (omega (arith, two, le, any)) in
    omega (arith, one, most)
pages_bounded header (Copying address bytes to) own wanted written count depth (suc later) le one two three store =
    let any = at_most (nat_lt 0 (suc later)) (2 * count) in
    let few : 2 * turn_weight header + written ≤ 2 * turn_weight header = omega (arith, three) in
    let most = cost_bounded header (Copying address bytes to) (2 * turn_weight header) wanted written depth later few (omega (arith, two, le, any)) in
    omega (arith, one, most)
pages_bounded header (Storing address bytes value) own wanted written count depth (suc later) le one two three store =
    let any = at_most (nat_lt 0 (suc later)) (2 * count) in
    let few : 0 + written ≤ 2 * turn_weight header = omega (arith, three) in
    let most = cost_bounded header (Storing address bytes value) 0 wanted written depth later few (omega (arith, two, le, any)) in
    omega (arith, one, most)

-- a store is of one page
one_left : (size next : ℕ) (access : Access) → is_store access ≡ true → pages_left size access next ≡ 1
one_left size next (Loading address bytes) is = refl
one_left size next (Storing address bytes value) is = refl
one_left size next (Copying address bytes to) is = absurd (cc)

-- what a task wants at all places
abbrev wanted_by : Header → ℕ → Option Access → List Event → ℕ
wanted_by header task access past = all_places header past (λ h o p. weigh (wants_as header every task h o p access past) 2)

abbrev written_by : Header → ℕ → Option Access → List Event → ℕ
written_by header task access past = all_places header past (λ h o p. weigh (writes_as header task h o p access past) (2 * turn_weight header))

idle_bounded : (header : Header) (n : ℕ) (past : List Event) → 0 + (all_places header past (λ h o p. 0) + all_places header past (λ h o p. 0)) ≤ n
idle_bounded header n past = let none = nowhere header past in omega (arith, none)

task_bounded : (header : Header) (task depth : ℕ) (access : Option Access) (host : Option ℕ) (past : List Event)
    → places_waiting header task access past ≤ depth
    → weight_of header task access host past + (wanted_by header task access past + written_by header task access past)
    ≤ pages_waiting header task access past * span depth (host_count header)
task_bounded header task depth None host past le = idle_bounded header (0 * span depth (host_count header)) past
task_bounded header task depth (Some access) host past le =
    pages_bounded header access (weight_of header task (Some access) host past) (wanted_by header task (Some access) past)
    (written_by header task (Some access) past) (places_of header (led header task access past) past) depth
    (pages_left header.size access (next_page task past)) le (own_bounded header task access host past) (access_wants header task access past)
    (access_writes header task access (2 * turn_weight header) past) (one_left header.size (next_page task past) access)

-- all tasks below a number

deepest_first : (a b : ℕ) → a ≤ max a b
deepest_first a b = omega arith

deepest_other : (a b : ℕ) → b ≤ max a b
deepest_other a b = omega arith

above : (a b c : ℕ) → a ≤ b → b ≤ c → a ≤ c
above a b c one two = omega (arith, one, two)

abbrev cost_of : Header → List Event → ℕ → ℕ
cost_of header past task = wanted_by header task (waiting task past) past + written_by header task (waiting task past) past

tasks_bounded : (header : Header) (n depth : ℕ) (past : List Event) → deepest_below header n past ≤ depth
    → sum_below n (λ task. access_weight header task past + cost_of header past task)
    ≤ sum_below n (λ task. pages_waiting header task (waiting task past) past) * span depth (host_count header)
tasks_bounded header zero depth past le = omega arith
tasks_bounded header (suc n) depth past le =
    both_bounded (span depth (host_count header)) (access_weight header n past + cost_of header past n)
    (sum_below n (λ task. access_weight header task past + cost_of header past task))
    (pages_waiting header n (waiting n past) past) (sum_below n (λ task. pages_waiting header task (waiting task past) past))
    (task_bounded header n depth (waiting n past) (host_of n past) past
    (above _ _ depth (deepest_first (places_waiting header n (waiting n past) past) (deepest_below header n past)) le))
    (tasks_bounded header n depth past (above _ _ depth (deepest_other (places_waiting header n (waiting n past) past) (deepest_below header n past)) le))

-- the places: each weighs no more than what all tasks want there

turns_bounded : (access : ℕ) (page : Local) → write_turns access page ≤ 2
turns_bounded access page = by page.here (names page.lock true) page.unlocking page.asked (access == 3)
  where
    by : (here named unlocking asked write : Bool)
        → (if here then (if named then (if unlocking then 1 else 2) else 0) else if asked then (if write then 0 else 2) else 1) ≤ 2
    by true true true asked write = omega arith
    by true true false asked write = omega arith
    by true false unlocking asked write = omega arith
    by false named unlocking true true = omega arith
    by false named unlocking true false = omega arith
    by false named unlocking false write = omega arith

turned : (m turns : ℕ) → turns ≤ 2 → m * turns ≤ 2 * m
turned m zero le = let none = mul_comm m 0 in omega (arith, none)
turned m (suc zero) le = let one = mul_comm m 1 in omega (arith, one)
turned m (suc (suc zero)) le = let two = mul_comm m 2 in omega (arith, two)
turned m (suc (suc (suc n))) le = absurd (omega (arith, le))

place_bounded : (header : Header) (h o p : ℕ) (past : List Event)
    → place_weight header h o p past ≤ weigh (is_wanted header h o p past) 2 + weigh (is_wanted_to_write header h o p past) (2 * turn_weight header)
place_bounded header h o p past =
    by (is_wild header o) (is_shared header o) (is_wanted_to_write header h o p past) (is_open (sight header h o p past)) (is_wanted header h o p past)
    (turned (turn_weight header) (write_turns (asked_for h o p past) (page_on header h o p past))
    (turns_bounded (asked_for h o p past) (page_on header h o p past)))
  where
    by : (wild shared write open_place wanted : Bool)
        → turn_weight header * write_turns (asked_for h o p past) (page_on header h o p past) ≤ 2 * turn_weight header
        → (if wild then 0 else if shared
        then (if write then turn_weight header * write_turns (asked_for h o p past) (page_on header h o p past) else 0)
        else if open_place && wanted then 2 else 0) ≤ weigh wanted 2 + weigh write (2 * turn_weight header)
    by true shared write open_place wanted le = omega arith
    by false true true open_place wanted le = omega (arith, le)
    by false true false open_place wanted le = omega arith
    by false false write true true le = omega arith
    by false false write true false le = omega arith
    by false false write false wanted le = omega arith

-- what one task wants at a place, and what all of them want there

abbrev wants_at : Header → List Event → ℕ → ℕ → ℕ → ℕ → ℕ
wants_at header past task h o p = weigh (wants header every task h o p past) 2

abbrev writes_at : Header → List Event → ℕ → ℕ → ℕ → ℕ → ℕ
writes_at header past task h o p = weigh (writes header task h o p past) (2 * turn_weight header)

any_bounded : (a b : Bool) (w rest : ℕ) → weigh b w ≤ rest → weigh (a || b) w ≤ weigh a w + rest
any_bounded true b w rest le = omega arith
any_bounded false b w rest le = omega (arith, le)

wanted_bounded : (header : Header) (n h o p : ℕ) (past : List Event)
    → weigh (any_wants header every n h o p past) 2 ≤ sum_below n (λ task. wants_at header past task h o p)
wanted_bounded header zero h o p past = omega arith
wanted_bounded header (suc n) h o p past =
    any_bounded (wants header every n h o p past) (any_wants header every n h o p past) 2 (sum_below n (λ task. wants_at header past task h o p))
    (wanted_bounded header n h o p past)

written_bounded : (header : Header) (n h o p : ℕ) (past : List Event)
    → weigh (any_writes header n h o p past) (2 * turn_weight header) ≤ sum_below n (λ task. writes_at header past task h o p)
written_bounded header zero h o p past = omega arith
written_bounded header (suc n) h o p past =
    any_bounded (writes header n h o p past) (any_writes header n h o p past) (2 * turn_weight header) (sum_below n (λ task. writes_at header past task h o p))
    (written_bounded header n h o p past)

-- so the places weigh no more than what the tasks want, each at all places

two_sums : (a b c d e f : ℕ) → a ≤ b + c → b ≤ d → c ≤ e → f ≡ d + e → a ≤ f
two_sums a b c d e f one two three four = omega (arith, one, two, three, four)

place_shared_out : (header : Header) (n h o p w : ℕ) (past : List Event)
    → w ≤ weigh (any_wants header every n h o p past) 2 + weigh (any_writes header n h o p past) (2 * turn_weight header)
    → w ≤ sum_below n (λ task. wants_at header past task h o p + writes_at header past task h o p)
place_shared_out header n h o p w past le =
    two_sums w (weigh (any_wants header every n h o p past) 2) (weigh (any_writes header n h o p past) (2 * turn_weight header))
    (sum_below n (λ task. wants_at header past task h o p)) (sum_below n (λ task. writes_at header past task h o p))
    (sum_below n (λ task. wants_at header past task h o p + writes_at header past task h o p)) le
    (wanted_bounded header n h o p past) (written_bounded header n h o p past)
    (sum_both n (λ task. wants_at header past task h o p) (λ task. writes_at header past task h o p))

no_more : (a b : ℕ) → a ≡ b → a ≤ b
no_more a b e = omega (arith, e)

-- what each task costs at all places
task_places : (header : Header) (task : ℕ) (past : List Event)
    → all_places header past (λ h o p. wants_at header past task h o p + writes_at header past task h o p) ≤ cost_of header past task
task_places header task past =
    no_more _ _ (places_both (host_count header) (next_object header past) (pages_at header past) (wants_at header past task) (writes_at header past task))

shared_out : (header : Header) (n : ℕ) (past : List Event)
    → all_places header past (λ h o p. sum_below n (λ task. wants_at header past task h o p + writes_at header past task h o p))
    ≤ sum_below n (cost_of header past)
shared_out header n past =
    above _ (sum_below n (λ task. all_places header past (λ h o p. wants_at header past task h o p + writes_at header past task h o p))) _
    (places_swapped n (host_count header) (next_object header past) (pages_at header past)
    (λ task h o p. wants_at header past task h o p + writes_at header past task h o p))
    (sum_lower n (λ task. all_places header past (λ h o p. wants_at header past task h o p + writes_at header past task h o p)) (cost_of header past)
    (λ task. task_places header task past))

places_bounded : (header : Header) (n : ℕ) (past : List Event)
    → ((h o p : ℕ) → place_weight header h o p past
    ≤ weigh (any_wants header every n h o p past) 2 + weigh (any_writes header n h o p past) (2 * turn_weight header))
    → places header past ≤ sum_below n (cost_of header past)
places_bounded header n past each =
    above _ (all_places header past (λ h o p. sum_below n (λ task. wants_at header past task h o p + writes_at header past task h o p))) _
    (places_lower (host_count header) (next_object header past) (pages_at header past) (λ h o p. place_weight header h o p past)
    (λ h o p. sum_below n (λ task. wants_at header past task h o p + writes_at header past task h o p))
    (λ h o p. place_shared_out header n h o p (place_weight header h o p past) past (each h o p)))
    (shared_out header n past)

-- the accesses and the places together
waiting_bounded : (header : Header) (n depth : ℕ) (past : List Event) → deepest_below header n past ≤ depth
    → places header past ≤ sum_below n (cost_of header past)
    → sum_below n (λ task. access_weight header task past) + places header past
    ≤ sum_below n (λ task. pages_waiting header task (waiting task past) past) * span depth (host_count header)
waiting_bounded header n depth past le most =
    joined (sum_below n (λ task. access_weight header task past)) (places header past) (sum_below n (cost_of header past))
    (sum_below n (λ task. access_weight header task past + cost_of header past task)) _ most
    (sum_both n (λ task. access_weight header task past) (cost_of header past)) (tasks_bounded header n depth past le)
  where
    joined : (a b c d e : ℕ) → b ≤ c → d ≡ a + c → d ≤ e → a + b ≤ e
    joined a b c d e one two three = omega (arith, one, two, three)

-- all of it

itself : (n : ℕ) → n ≤ n
itself n = omega arith

added : (k a b c m n w d : ℕ) → a ≤ m * k → b ≤ n * k → c ≤ w * (d * k) → a + b + c ≤ (m + n + w * d) * k
added k a b c m n w d one two three =
    let outer = add-mul (m + n) (w * d) k in
    let inner = add-mul m n k in
    let same = mul_assoc w d k in
    omega (arith, one, two, three, outer, inner, same)

pub sum_bounded : (header : Header) (past : List Event) → PagesAreDeclared header past → sum header past ≤ bound header past
sum_bounded header past declared =
    added (factor (host_count header)) (letters header past) (lines header past) (accesses header past + places header past) (undelivered_count header past)
    (pending header past) (waiting_count header past) (deepest header past + 4)
    (letters_bounded header past (undelivered past) declared) (lines_bounded header past)
    (waiting_bounded header most_tasks (deepest header past) past (itself (deepest header past))
    (places_bounded header most_tasks past (λ h o p. place_bounded header h o p past)))
