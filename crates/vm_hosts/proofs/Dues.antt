-- What is still to be told on the hosts, and the room for it.
use Rattle.vm_hosts.proofs.Common.{Bool, Breadth, CanServe, CanServeOn, HostId, HostTable, Ids, IsReady, IsReadyOn, List, MayServe, None, Option, Parts}
use Rattle.vm_hosts.proofs.Common.{ServeRoom}
use Rattle.vm_hosts.proofs.Common.{Some, [], acts_in, add-one, ap, arith, dues, false, front, full_dues, has_queue, if◌then◌else◌, inl, inr, length, most}
use Rattle.vm_hosts.proofs.Common.{most_from, most_on, nat_lt, one, own_dues, queued, refl, same_Some, set, slice_get, slice_get_within, subst, suc}
use Rattle.vm_hosts.proofs.Common.{sum_of_dues}
use Rattle.vm_hosts.proofs.Common.{sym, takes_part, true, zero, ℕ, ◌+◌, ◌<◌, ◌||◌, ◌∙◌, ◌∷◌, ◌≡◌, ◌≤◌}
use Rattle.vm_kernel.proofs.room.PartsOfStep.{dues_full}
use Rattle.vm_hosts.proofs.Tables.{put, same_number, set_cases}
use Rattle.vm_waits.specs.Waits.{WaitTable}

-- one kernel's

-- the host that acts takes part, and so does each on which somebody waits for a frame
pub acting_takes : (host : HostId) (k : Parts) → takes_part (Some host) host.0 k ≡ true
acting_takes host k = ap (λ (z : Bool). z || has_queue k) (same_number host.0)

queue_takes : (acting : Option HostId) (h : ℕ) (k : Parts) → has_queue k ≡ true → takes_part acting h k ≡ true
queue_takes acting h k queue = by_acting (acts_in acting h)
  where
    by_acting : (b : Bool) → (b || has_queue k) ≡ true
    by_acting true = refl
    by_acting false = queue

own_less : (k : Parts) → own_dues k ≤ dues k + 2
own_less k = by_queue (has_queue k)
  where
    by_queue : (b : Bool) → (if b then dues k + 2 else 0) ≤ dues k + 2
    by_queue true = omega arith
    by_queue false = omega arith

own_few : (acting : Option HostId) (b : Breadth) (h : ℕ) (k : Parts) → own_dues k ≤ most_on acting b h k
own_few acting b h k = by_part (acts_in acting h) (has_queue k)
  where
    by_part : (acts waits : Bool) → (if waits then dues k + 2 else 0) ≤ (if acts || waits then most b k else 0)
    by_part true true = let full = dues_full k in omega (arith, full)
    by_part true false = omega arith
    by_part false true = let full = dues_full k in omega (arith, full)
    by_part false false = omega arith

-- behind what another host did in front
pub serve_ready : (b : Breadth) (k : Parts) → IsReadyOn b k → CanServeOn k
serve_ready b k ready =
    let full = dues_full k in
    let rows = ready.rows in
    let shadows = ready.shadows in
    let objects = ready.objects in
    let buffers = ready.buffers in
    record {
      rows = omega (arith, full, rows);
      shadows = omega (arith, shadows);
      objects = omega (arith, objects);
      buffers = omega (arith, buffers);
    }

serve_own : (more : ℕ) (k : Parts) (space : ℕ) → ServeRoom more k space → CanServeOn k
serve_own more k space room = record { rows = room.has.rows; shadows = room.has.shadows; objects = room.has.objects; buffers = room.buffers }

-- what the other hosts have still to tell

abbrev pub other_dues : ℕ → List Parts → ℕ
other_dues h [] = 0
other_dues zero (k ∷ ks) = sum_of_dues ks
other_dues (suc h) (k ∷ ks) = own_dues k + other_dues h ks

sum_set : (ks : List Parts) (h : ℕ) (k : Parts) → h < length ks → sum_of_dues (set ks h k) ≡ own_dues k + other_dues h ks
sum_set [] h k less = absurd (omega arith)
sum_set (x ∷ ks) zero k less = refl
sum_set (x ∷ ks) (suc h) k less =
    let rest = sum_set ks h k (omega (arith, less)) in
    swap_sums (own_dues x) (own_dues k) (sum_of_dues (set ks h k)) (other_dues h ks) rest
  where
    swap_sums : (a b c d : ℕ) → c ≡ b + d → a + c ≡ b + (a + d)
    swap_sums a b c d is = omega (arith, is)

all_few : (acting : Option HostId) (b : Breadth) (n : ℕ) (ks : List Parts) → sum_of_dues ks ≤ most_from acting b n ks
all_few acting b n [] = omega arith
all_few acting b n (k ∷ ks) =
    two_few (own_dues k) (most_on acting b n k) (sum_of_dues ks) (most_from acting b (suc n) ks) (own_few acting b n k) (all_few acting b (suc n) ks)
  where
    two_few : (a c d e : ℕ) → a ≤ c → d ≤ e → a + d ≤ c + e
    two_few a c d e one rest = omega (arith, one, rest)

others_few : (acting : Option HostId) (b : Breadth) (n : ℕ) (ks : List Parts) (h g : ℕ) (k : Parts) → slice_get ks h ≡ Some k → g ≡ n + h
    → takes_part acting g k ≡ true → most b k + other_dues h ks ≤ most_from acting b n ks
others_few acting b n [] h g k at is takes = absurd (let bad : None ≡ Some k = at in cc)
others_few acting b n (x ∷ ks) zero g k at is takes =
    let rest = all_few acting b (suc n) ks in
    let here : takes_part acting n x ≡ true = subst (λ (z : Parts). takes_part acting n z ≡ true) (sym (same_Some x k at))
    (subst (λ (z : ℕ). takes_part acting z k ≡ true) (omega (arith, is)) takes) in
    subst (λ (z : Parts). most b z + sum_of_dues ks ≤ most_on acting b n x + most_from acting b (suc n) ks) (same_Some x k at)
    (subst (λ (z : Bool). most b x + sum_of_dues ks ≤ (if z then most b x else 0) + most_from acting b (suc n) ks) (sym here) (omega (arith, rest)))
others_few acting b n (x ∷ ks) (suc h) g k at is takes =
    three_few (most b k) (own_dues x) (other_dues h ks) (most_on acting b n x) (most_from acting b (suc n) ks) (own_few acting b n x)
    (others_few acting b (suc n) ks h g k at (omega (arith, is)) takes)
  where
    three_few : (a b d e f : ℕ) → b ≤ e → a + d ≤ f → a + (b + d) ≤ e + f
    three_few a b d e f one rest = omega (arith, one, rest)

-- where there is room for a step, there is room to serve at once
pub can_serve : (acting : Option HostId) (b : Breadth) (hosts : HostTable) (events space : ℕ) → IsReady acting b events hosts space → CanServe hosts space
can_serve acting b hosts events space ready =
    record {
      each = λ h k found queue. serve_ready b k (ready.each h k found (queue_takes acting h k queue));
      room = within_all (all_few acting b 0 hosts.kernels) ready.enough ready.room;
    }
  where
    within_all : {a b c d : ℕ} → a ≤ b → b ≤ c → c ≤ d → a ≤ d
    within_all one two three = omega (arith, one, two, three)

-- what they tell then is little
pub served_few : (acting : Option HostId) (b : Breadth) (hosts : HostTable) (events space : ℕ) → IsReady acting b events hosts space
    → sum_of_dues hosts.kernels ≤ events
served_few acting b hosts events space ready = between (all_few acting b 0 hosts.kernels) ready.enough
  where
    between : {a b c : ℕ} → a ≤ b → b ≤ c → a ≤ c
    between one two = omega (arith, one, two)

module _ (acting : HostId) (hosts : HostTable) (new k : Parts) (next : Ids) (at : slice_get hosts.kernels acting.0 ≡ Some k) where
  within : acting.0 < length hosts.kernels
  within = slice_get_within hosts.kernels acting.0 k at

  others : (b : Breadth) → most b k + other_dues acting.0 hosts.kernels ≤ most_from (Some acting) b 0 hosts.kernels
  others b = others_few (Some acting) b 0 hosts.kernels acting.0 acting.0 k at (omega arith) (acting_takes acting k)

  -- the host that acts has room
  pub acting_ready : (b : Breadth) (events space : ℕ) → IsReady (Some acting) b events hosts space → IsReadyOn b k
  acting_ready b events space ready = ready.each acting.0 k at (acting_takes acting k)

  -- it may act, and the others serve behind it
  pub front_room : (b : Breadth) (events space : ℕ) → IsReady (Some acting) b events hosts space → most b k + other_dues acting.0 hosts.kernels ≤ space
  front_room b events space ready =
      let few = others b in
      let enough = ready.enough in
      let room = ready.room in
      between few enough room
    where
      between : {a b c d : ℕ} → a ≤ b → b ≤ c → c ≤ d → a ≤ d
      between one two three = omega (arith, one, two, three)

  pub front_fits : (b : Breadth) (events space : ℕ) → IsReady (Some acting) b events hosts space → most b k ≤ space
  front_fits b events space ready = first (most b k) (other_dues acting.0 hosts.kernels) (front_room b events space ready)
    where
      first : (a b : ℕ) → a + b ≤ space → a ≤ space
      first a b fits = omega (arith, fits)

  pub acted_room : (b : Breadth) (events space left : ℕ) → IsReady (Some acting) b events hosts space → ServeRoom (other_dues acting.0 hosts.kernels) new left
      → CanServe (put hosts acting.0 new next) left
  acted_room b events space left ready room = record {
    each = λ g m found queue. elim (set_cases hosts.kernels acting.0 g new m within found) [
      | inl same ↦ subst CanServeOn same.1 (serve_own (other_dues acting.0 hosts.kernels) new left room)
      | inr apart ↦ serve_ready b m (ready.each g m apart.1 (queue_takes (Some acting) g m queue))
    ];
    room = rw (sum_set hosts.kernels acting.0 new within) (sum_room (other_dues acting.0 hosts.kernels) room.has.log);
  }
    where
      sum_room : (more : ℕ) → dues new + (more + 2) ≤ left → own_dues new + more ≤ left
      sum_room more log = let less = own_less new in omega (arith, log, less)

  pub acted_few : (b : Breadth) (events space told last : ℕ) → IsReady (Some acting) b events hosts space → told + dues new ≤ full_dues k + front b k
      → last ≤ told + sum_of_dues (set hosts.kernels acting.0 new) → last ≤ events
  acted_few b events space told last ready few served =
      let sum = sum_set hosts.kernels acting.0 new within in
      let enough = ready.enough in
      by_sums (other_dues acting.0 hosts.kernels) (sum_of_dues (set hosts.kernels acting.0 new)) (most_from (Some acting) b 0 hosts.kernels) sum (others b)
      enough few served
    where
      by_sums : (more sum all : ℕ) → sum ≡ own_dues new + more → most b k + more ≤ all → all ≤ events → told + dues new ≤ full_dues k + front b k
          → last ≤ told + sum → last ≤ events
      by_sums more sum all is rest enough few served = let less = own_less new in omega (arith, is, rest, enough, few, served, less)

-- what the hosts from a number on have still to tell

abbrev pub dues_from : ℕ → List Parts → ℕ
dues_from zero ks = sum_of_dues ks
dues_from (suc n) [] = 0
dues_from (suc n) (k ∷ ks) = dues_from n ks

dues_step : (ks : List Parts) (n : ℕ) (k : Parts) → slice_get ks n ≡ Some k → dues_from n ks ≡ own_dues k + dues_from (suc n) ks
dues_step [] n k at = absurd (let bad : None ≡ Some k = at in cc)
dues_step (x ∷ ks) zero k at = ap (λ (z : Parts). own_dues z + sum_of_dues ks) (same_Some x k at)
dues_step (x ∷ ks) (suc n) k at = dues_step ks n k at

dues_put : (ks : List Parts) (n : ℕ) (k : Parts) → dues_from (suc n) (set ks n k) ≡ dues_from (suc n) ks
dues_put [] n k = refl
dues_put (x ∷ ks) zero k = refl
dues_put (x ∷ ks) (suc n) k = dues_put ks n k

dues_next : (ks : List Parts) (n : ℕ) (k : Parts) → slice_get ks n ≡ Some k → dues_from n ks ≡ own_dues k + dues_from (n + 1) ks
dues_next ks n k at = subst (λ (z : ℕ). dues_from n ks ≡ own_dues k + dues_from z ks) (sym (add-one n)) (dues_step ks n k at)

dues_set : (ks : List Parts) (n : ℕ) (k : Parts) → dues_from (n + 1) (set ks n k) ≡ dues_from (n + 1) ks
dues_set ks n k = subst (λ (z : ℕ). dues_from z (set ks n k) ≡ dues_from z ks) (sym (add-one n)) (dues_put ks n k)

-- the hosts from a number on can serve, with so much room in the log; so many events are told, and there are so many at most in the end
pub record Serves (total n : ℕ) (hosts : HostTable) (told space : ℕ) : Type 0 where
  pub each : (h : ℕ) (k : Parts) → n ≤ h → slice_get hosts.kernels h ≡ Some k → has_queue k ≡ true → CanServeOn k
  pub room : dues_from n hosts.kernels ≤ space
  pub few : told + dues_from n hosts.kernels ≤ total

pub serves_start : (hosts : HostTable) (told space : ℕ) → CanServe hosts space → Serves (told + sum_of_dues hosts.kernels) 0 hosts told space
serves_start hosts told space can =
    record { each = λ h k least found. can.each h k found; room = can.room; few = most_itself (told + sum_of_dues hosts.kernels) }
  where
    most_itself : (a : ℕ) → a ≤ a
    most_itself a = omega arith

module _ (total n : ℕ) (hosts : HostTable) (k : Parts) (told space : ℕ) (at : slice_get hosts.kernels n ≡ Some k) (was : Serves total n hosts told space) where
  pub serves_room : MayServe (dues_from (n + 1) hosts.kernels) k space
  serves_room =
      record {
        tables = was.each n k (let m : n ≤ n = omega arith in m) at;
        log = log_room (dues_from n hosts.kernels) (dues_from (n + 1) hosts.kernels) (dues_next hosts.kernels n k at) was.room;
      }
    where
      log_room : (all more : ℕ) → all ≡ own_dues k + more → all ≤ space → own_dues k + more ≤ space
      log_room all more is room = omega (arith, is, room)

  pub serves_next : (new : Parts) (next : Ids) (later left : ℕ) → later ≤ told + own_dues k → dues_from (n + 1) hosts.kernels ≤ left
      → Serves total (n + 1) (put hosts n new next) later left
  serves_next new next later left few room = record {
    each = λ h m least found queue. elim (set_cases hosts.kernels n h new m (slice_get_within hosts.kernels n k at) found) [
      | inl same ↦ absurd (let is = same.0 in omega (arith, is, least))
      | inr apart ↦ was.each h m (omega (arith, least)) apart.1 queue
    ];
    room = rw (dues_set hosts.kernels n new) room;
    few = rw (dues_set hosts.kernels n new) (told_few (dues_from n hosts.kernels) (dues_from (n + 1) hosts.kernels) (dues_next hosts.kernels n k at) was.few);
  }
    where
      told_few : (all more : ℕ) → all ≡ own_dues k + more → told + all ≤ total → later + more ≤ total
      told_few all more is before = omega (arith, is, before, few)

pub serves_done : (total n : ℕ) (hosts : HostTable) (told space : ℕ) → Serves total n hosts told space → told ≤ total
serves_done total n hosts told space was = let few = was.few in less_all told (dues_from n hosts.kernels) few
  where
    less_all : (a b : ℕ) → a + b ≤ total → a ≤ total
    less_all a b few = omega (arith, few)

-- what a step adds at most stays, where one host's part of it does
most_same : (acting : Option HostId) (b : Breadth) (n : ℕ) (ks : List Parts) (h : ℕ) (k new : Parts) → slice_get ks h ≡ Some k
    → ((g : ℕ) → most_on acting b g new ≡ most_on acting b g k) → most_from acting b n (set ks h new) ≡ most_from acting b n ks
most_same acting b n [] h k new at same = refl
most_same acting b n (x ∷ ks) zero k new at same =
    ap (λ (z : ℕ). z + most_from acting b (suc n) ks) (same n ∙ ap (λ (z : Parts). most_on acting b n z) (sym (same_Some x k at)))
most_same acting b n (x ∷ ks) (suc h) k new at same = ap (λ (z : ℕ). most_on acting b n x + z) (most_same acting b (suc n) ks h k new at same)

pub ready_same : (acting : Option HostId) (b : Breadth) (hosts : HostTable) (h : ℕ) (k new : Parts) (events space : ℕ) → slice_get hosts.kernels h ≡ Some k
    → new.waits ≡ k.waits → (IsReadyOn b k → IsReadyOn b new) → most b new ≡ most b k → IsReady acting b events hosts space
    → IsReady acting b events (put hosts h new hosts.ids) space
ready_same acting b hosts h k new events space at waits keeps same ready = record {
  each = λ g m found takes. elim (set_cases hosts.kernels h g new m (slice_get_within hosts.kernels h k at) found) [
    | inl is ↦
        subst (λ (z : Parts). IsReadyOn b z) is.1 (keeps (ready.each h k at (sym (part h) ∙ subst (λ (z : Parts). takes_part acting h z ≡ true) (sym is.1)
        (subst (λ (z : ℕ). takes_part acting z m ≡ true) is.0 takes))))
    | inr apart ↦ ready.each g m apart.1 takes
  ];
  enough = subst (λ (z : ℕ). z ≤ events) (sym (most_same acting b 0 hosts.kernels h k new at adds)) ready.enough;
  room = ready.room;
}
  where
    part : (g : ℕ) → takes_part acting g new ≡ takes_part acting g k
    part g = ap (λ (z : WaitTable). acts_in acting g || nat_lt 0 (queued z.rows)) waits

    adds : (g : ℕ) → most_on acting b g new ≡ most_on acting b g k
    adds g =
        ap (λ (z : Bool). if z then most b new else 0) (part g) ∙ ap (λ (z : ℕ). if takes_part acting g k then z else 0) same

-- so the hosts serve within what a step adds at most
pub more_few : (told last events : ℕ) {dues : ℕ} → last ≤ told + dues → dues ≤ events → last ≤ told + events
more_few told last events few less = omega (arith, few, less)

pub none_more : {A : Type 0} (last events : ℕ) (told : List A) {dues : ℕ} → told ≡ [] → last ≤ length told + dues → dues ≤ events → last ≤ events
none_more last events told none few less = let empty = ap length none in omega (arith, few, less, empty)
