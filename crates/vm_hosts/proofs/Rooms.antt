-- Each host makes room for a step in its tables: what the kernels stand for stays, and what they add is summed up.
use Rattle.vm_hosts.proofs.Common.{AllQueued, AllRest, Breadth, Event, HasQueue, Header, HostId, HostTable, Ids, IsReady, IsReadyOn, List, Option, Parts, Rests}
use Rattle.vm_hosts.proofs.Common.{Some, [], add-one, ap, arith, inl, inr, length, length-set, most_from, most_on, refl, rests_roomier, rooms_of, set}
use Rattle.vm_hosts.proofs.Common.{slice_get}
use Rattle.vm_hosts.proofs.Common.{slice_get_within, subst, suc, sym, takes_part, true, with_rooms_of, zero, ℕ, ◌+◌, ◌<◌, ◌∙◌, ◌∷◌, ◌≡◌, ◌≤◌}
use Rattle.std.specs.Prelude.{Err, Ok, OnErr, Result}
use Rattle.vm_hosts.proofs.Tables.{put, set_cases}

-- a kernel with other rooms stands for the same
rests_rooms : (header : Header) (h : ℕ) (new old : Parts) (ids : Ids) (past : List Event) → new ≡ with_rooms_of new old → Rests header h old ids past
    → Rests header h new ids past
rests_rooms header h new old ids past is was =
    subst (λ (z : Parts). Rests header h z ids past) (sym is) (rests_roomier header h (rooms_of new) old ids past was)

queue_rooms : (header : Header) (h : ℕ) (new old : Parts) (past : List Event) → new ≡ with_rooms_of new old → HasQueue header h old past
    → HasQueue header h new past
queue_rooms header h new old past is was = subst (λ (z : Parts). HasQueue header h z past) (sym is) was

module _ (hosts : HostTable) (h : ℕ) (new k : Parts) (next : Ids) (at : slice_get hosts.kernels h ≡ Some k) (is : new ≡ with_rooms_of new k)
    (ids : next ≡ hosts.ids) (header : Header) (past : List Event) where
  within : h < length hosts.kernels
  within = slice_get_within hosts.kernels h k at

  rests_at : AllRest header hosts past → (g : ℕ) (m : Parts) → slice_get (set hosts.kernels h new) g ≡ Some m → Rests header g m hosts.ids past
  rests_at all g m found = elim (set_cases hosts.kernels h g new m within found) [
    | inl same ↦
        subst (λ (z : ℕ). Rests header z m hosts.ids past) (sym same.0)
        (subst (λ (z : Parts). Rests header h z hosts.ids past) same.1 (rests_rooms header h new k hosts.ids past is (all.rests h k at)))
    | inr apart ↦ all.rests g m apart.1
  ]

  pub all_rooms : AllRest header hosts past → AllRest header (put hosts h new next) past
  all_rooms all = record {
    ranged = all.ranged;
    count = length-set {A = Parts} hosts.kernels h new ∙ all.count;
    rests = λ g m found. subst (λ (z : Ids). Rests header g m z past) (sym ids) (rests_at all g m found);
    sound = all.sound;
    tasks = all.tasks;
    homes = all.homes;
  }

  pub queued_rooms : AllQueued header hosts past → AllQueued header (put hosts h new next) past
  queued_rooms all g m found = elim (set_cases hosts.kernels h g new m within found) [
    | inl same ↦
        subst (λ (z : ℕ). HasQueue header z m past) (sym same.0)
        (subst (λ (z : Parts). HasQueue header h z past) same.1 (queue_rooms header h new k past is (all h k at)))
    | inr apart ↦ all g m apart.1
  ]

-- how many events the first so many of some kernels add at most, of which the first has the number h
abbrev pub most_below : Option HostId → Breadth → ℕ → ℕ → List Parts → ℕ
most_below acting b h zero ks = 0
most_below acting b h (suc n) [] = 0
most_below acting b h (suc n) (k ∷ ks) = most_on acting b h k + most_below acting b (suc h) n ks

most_step : (acting : Option HostId) (b : Breadth) (h : ℕ) (ks : List Parts) (n g : ℕ) (k : Parts) → n < length ks → g ≡ h + n
    → most_below acting b h (suc n) (set ks n k) ≡ most_below acting b h n ks + most_on acting b g k
most_step acting b h [] n g k less is = absurd (omega arith)
most_step acting b h (x ∷ ks) zero g k less is =
    subst (λ (z : ℕ). most_on acting b h k + 0 ≡ 0 + most_on acting b z k) (omega (arith, is)) (plus_none (most_on acting b h k))
  where
    plus_none : (a : ℕ) → a + 0 ≡ 0 + a
    plus_none a = omega arith
most_step acting b h (x ∷ ks) (suc n) g k less is =
    plus_more (most_on acting b h x) (most_below acting b (suc h) (suc n) (set ks n k)) (most_below acting b (suc h) n ks) (most_on acting b g k)
    (most_step acting b (suc h) ks n g k (omega (arith, less)) (omega (arith, is)))
  where
    plus_more : (a b c d : ℕ) → b ≡ c + d → a + b ≡ a + c + d
    plus_more a b c d is = omega (arith, is)

most_next : (acting : Option HostId) (b : Breadth) (ks : List Parts) (n : ℕ) (k : Parts) → n < length ks
    → most_below acting b 0 (n + 1) (set ks n k) ≡ most_below acting b 0 n ks + most_on acting b n k
most_next acting b ks n k less =
    subst (λ (z : ℕ). most_below acting b 0 z (set ks n k) ≡ most_below acting b 0 n ks + most_on acting b n k) (sym (add-one n))
    (most_step acting b 0 ks n n k less (omega arith))

most_all : (acting : Option HostId) (b : Breadth) (h : ℕ) (ks : List Parts) → most_below acting b h (length ks) ks ≡ most_from acting b h ks
most_all acting b h [] = refl
most_all acting b h (k ∷ ks) = ap (λ (z : ℕ). most_on acting b h k + z) (most_all acting b (suc h) ks)

-- the hosts below a number have made room
pub record Reserving (acting : Option HostId) (b : Breadth) (first : HostTable) (n sum : ℕ) (hosts : HostTable) : Type 0 where
  pub rests : (header : Header) (past : List Event) → AllRest header first past → AllRest header hosts past
  pub queues : (header : Header) (past : List Event) → AllRest header first past → AllQueued header first past → AllQueued header hosts past
  pub each : (h : ℕ) (k : Parts) → h < n → slice_get hosts.kernels h ≡ Some k → takes_part acting h k ≡ true → IsReadyOn b k
  pub adds : sum ≡ most_below acting b 0 n hosts.kernels

pub reserving_start : (acting : Option HostId) (b : Breadth) (hosts : HostTable) → Reserving acting b hosts 0 0 hosts
reserving_start acting b hosts =
    record { rests = λ header past all. all; queues = λ header past all queues. queues; each = λ h k less found. absurd (omega arith); adds = refl }

-- one more has tried to
pub reserving_tried : (acting : Option HostId) (b : Breadth) (first hosts : HostTable) (n sum : ℕ) (new k : Parts) → slice_get hosts.kernels n ≡ Some k
    → new ≡ with_rooms_of new k → Reserving acting b first n sum hosts
    → ((header : Header) (past : List Event) → AllRest header first past → AllRest header (put hosts n new hosts.ids) past)
    × ((header : Header) (past : List Event) → AllRest header first past → AllQueued header first past → AllQueued header (put hosts n new hosts.ids) past)
reserving_tried acting b first hosts n sum new k at is was = (
  λ header past all. all_rooms hosts n new k hosts.ids at is refl header past (was.rests header past all),
  λ header past all queues. queued_rooms hosts n new k hosts.ids at is refl header past (was.queues header past all queues),
)

pub reserving_next : (acting : Option HostId) (b : Breadth) (first hosts : HostTable) (n sum told after : ℕ) (new k : Parts)
    → slice_get hosts.kernels n ≡ Some k → new ≡ with_rooms_of new k → (takes_part acting n new ≡ true → IsReadyOn b new) → told ≡ most_on acting b n new
    → after ≡ sum + told → Reserving acting b first n sum hosts → Reserving acting b first (n + 1) after (put hosts n new hosts.ids)
reserving_next acting b first hosts n sum told after new k at is ready tells adds was =
    let within = slice_get_within hosts.kernels n k at in
    let tried = reserving_tried acting b first hosts n sum new k at is was in
    record {
      rests = tried.0;
      queues = tried.1;
      each = λ g m less found takes. elim (set_cases hosts.kernels n g new m within found) [
        | inl same ↦
            subst (λ (z : Parts). IsReadyOn b z) same.1 (ready (subst (λ (z : Parts). takes_part acting n z ≡ true) (sym same.1)
            (subst (λ (z : ℕ). takes_part acting z m ≡ true) same.0 takes)))
        | inr apart ↦ was.each g m (let far = apart.0 in omega (arith, less, far)) apart.1 takes
      ];
      adds = adds ∙ (ap (λ (z : ℕ). sum + z) tells ∙ (ap (λ (z : ℕ). z + most_on acting b n new) was.adds
          ∙ sym (most_next acting b hosts.kernels n new within)));
    }

pub reserving_done : (acting : Option HostId) (b : Breadth) (first hosts : HostTable) (n sum space : ℕ) → length hosts.kernels ≡ n → sum ≤ space
    → Reserving acting b first n sum hosts → IsReady acting b sum hosts space
reserving_done acting b first hosts n sum space all room was =
    let whole : most_below acting b 0 n hosts.kernels ≡ most_from acting b 0 hosts.kernels = subst
    (λ (z : ℕ). most_below acting b 0 z hosts.kernels ≡ most_from acting b 0 hosts.kernels) all (most_all acting b 0 hosts.kernels) in
    let is = was.adds in
    record {
      each = λ h k found. was.each h k (let within = slice_get_within hosts.kernels h k found in omega (arith, within, all)) found;
      enough = subst (λ (z : ℕ). z ≤ sum) (is ∙ whole) (let m : sum ≤ sum = omega arith in m);
      room = room;
    }

-- a number that fits, and room in the log for so many events more
pub ready_whole : (acting : Option HostId) (b : Breadth) (adds events more sum space : ℕ) (hosts : HostTable) → events ≡ adds → sum ≡ events + more
    → sum ≤ space → ((z : ℕ) → adds ≤ z → IsReady acting b adds hosts z) → IsReady acting b events hosts space × (events + more ≤ space)
ready_whole acting b adds events more sum space hosts same is fits ready =
    let within : events + more ≤ space = omega (arith, is, fits) in
    (subst (λ (z : ℕ). IsReady acting b z hosts space) (sym same) (ready space (omega (arith, within, same))), within)

-- what holds where a call fails
pub on_err : {A B P : Type 0} (r : Result A B) → P → OnErr r P
on_err (Ok x) p = tt
on_err (Err e) p = p
