-- One host acts: the kernels of the others stand for what it adds as well.
use Rattle.vm_hosts.proofs.Common.{AllInner, AllInTurn, AllRest, Bool, Command, CreatesHere, EachIn, EachOf, EntersNext, Event, HasQueue, Header, HostTable}
use Rattle.vm_hosts.proofs.Common.{Ids, IsAbroad, IsMine, IsNewTask, IsOfHost, IsOnlyOfHost, KernelSays, LicensedInTurn, List, MomentsIn, None, Option, Outside}
use Rattle.vm_hosts.proofs.Common.{OwnBytes, Parts, PromptAt, Rests, Some, SomeKernelSays, Stretch, Suffice, [], abroad_of_own, arith, common_of, each_both}
use Rattle.vm_hosts.proofs.Common.{false, copying_host, first_home, frames_abroad, home_of, host_of, if◌then◌else◌, inl, inr, is_home, length, length-set}
use Rattle.vm_hosts.proofs.Common.{licensed_both, of_both, of_host, own_of_home, prompt_abroad, queue_abroad, refl, rests_abroad, same_Some, slice_get}
use Rattle.vm_hosts.proofs.Common.{sound_more, subst, sym, true, ℕ, ℕ_discrete, ◌++◌, ◌+◌, ◌<◌, ◌==◌, ◌∙◌, ◌∷◌, ◌≡◌, ◌≢◌}
use Rattle.vm_model.specs.declared.event.Event.TheVariants as event
use Rattle.vm_hosts.proofs.Tables.{common_all, put, set_cases}
use Rattle.vm_legal.proofs.Turns.{cause_of}

-- the event makes no task but on one of so many hosts
abbrev pub MakesOn : ℕ → Event → Type 0
MakesOn n (event.TaskMade task host) = host.0 < n
MakesOn n other = Unit {0}

makes_said : (n h size : ℕ) (e : Event) → h < n → KernelSays h size e → MakesOn n e
makes_said n h size (event.TaskMade task host) known says = omega (arith, known, says)
makes_said n h size other known says = tt

pub makes_all : (n h size : ℕ) (events : List Event) → h < n → EachOf (KernelSays h size) events → EachOf (MakesOn n) events
makes_all n h size [] known said = tt
makes_all n h size (e ∷ events) known said = (makes_said n h size e known said.0, makes_all n h size events known said.1)

-- tasks live on hosts of the header
tasks_next : (n : ℕ) (e : Event) (past : List Event) → MakesOn n e → ((task g : ℕ) → host_of task past ≡ Some g → g < n) → (task g : ℕ)
    → host_of task (e ∷ past) ≡ Some g → g < n
tasks_next n (event.TaskMade made host) past makes was task g is = by_test (made.0 == task) is
  where
    by_test : (b : Bool) → (if b then Some host.0 else host_of task past) ≡ Some g → g < n
    by_test true here = let same : host.0 ≡ g = same_Some host.0 g here in omega (arith, same, makes)
    by_test false there = was task g there
tasks_next n (event.TaskEnded gone) past makes was task g is = by_test (gone.0 == task) is
  where
    by_test : (b : Bool) → (if b then None else host_of task past) ≡ Some g → g < n
    by_test true here = absurd (let bad : None ≡ Some g = here in cc)
    by_test false there = was task g there
tasks_next n other past makes was task g is = was task g is

pub tasks_more : (n : ℕ) (events past : List Event) → EachOf (MakesOn n) events → ((task g : ℕ) → host_of task past ≡ Some g → g < n) → (task g : ℕ)
    → host_of task (events ++ past) ≡ Some g → g < n
tasks_more n [] past makes was = was
tasks_more n (e ∷ events) past makes was = tasks_next n e (events ++ past) makes.0 (tasks_more n events past makes.1 was)

-- so homes are hosts of the header

copied_on : (n : ℕ) (past : List Event) → ((task g : ℕ) → host_of task past ≡ Some g → g < n) → (g : ℕ) → copying_host past ≡ Some g → g < n
copied_on n (event.BegunCopy task address bytes to ∷ past) tasks g is = tasks task.0 g is
copied_on n [] tasks g is = absurd (let bad : None ≡ Some g = is in cc)
copied_on n (e ∷ past) tasks g is = absurd (let bad : None ≡ Some g = is in cc)

homes_next : (n : ℕ) (e : Event) (past : List Event) → ((task g : ℕ) → host_of task past ≡ Some g → g < n) → ((r g : ℕ) → home_of r past ≡ Some g → g < n)
    → (r g : ℕ) → home_of r (e ∷ past) ≡ Some g → g < n
homes_next n (event.RegionMade region object pages) past tasks was r g is = by_test (region.0 == r) (home_of r past) refl is
  where
    by_test : (b : Bool) (x : Option ℕ) → home_of r past ≡ x → (if b then first_home x (copying_host past) else x) ≡ Some g → g < n
    by_test true None none is = copied_on n past tasks g is
    by_test true (Some h) there is = was r g (there ∙ is)
    by_test false x there is = was r g (there ∙ is)
homes_next n (event.Entered task address bytes region offset prot inherit) past tasks was r g is = by_test (region.0 == r) (home_of r past) refl is
  where
    by_test : (b : Bool) (x : Option ℕ) → home_of r past ≡ x → (if b then first_home x (host_of task.0 past) else x) ≡ Some g → g < n
    by_test true None none here = tasks task.0 g here
    by_test true (Some h) some here = was r g (some ∙ here)
    by_test false x same there = was r g (same ∙ there)
homes_next n other past tasks was r g is = was r g is

pub homes_more : (n : ℕ) (events past : List Event) → EachOf (MakesOn n) events → ((task g : ℕ) → host_of task past ≡ Some g → g < n)
    → ((r g : ℕ) → home_of r past ≡ Some g → g < n) → (r g : ℕ) → home_of r (events ++ past) ≡ Some g → g < n
homes_more n [] past makes tasks was = was
homes_more n (e ∷ events) past makes tasks was =
    homes_next n e (events ++ past) (tasks_more n events past makes.1 tasks) (homes_more n events past makes.1 tasks was)

-- what a kernel adds to a history: each event has its cause and is its own
pub record Acts (header : Header) (h : ℕ) (outside : Outside) (doing : Command) (past events : List Event) : Type 0 where
  pub known : h < length header.frames.items
  pub licensed : AllInTurn header outside doing events past
  pub mine : EachIn (IsMine header h) events past
  pub makes : EachOf (MakesOn (length header.frames.items)) events

pub acts_both : (header : Header) (h : ℕ) (outside : Outside) (doing : Command) (past front later : List Event) → Acts header h outside doing past front
    → Acts header h outside doing (front ++ past) later → Acts header h outside doing past (later ++ front)
acts_both header h outside doing past front later one two = record {
  known = one.known;
  licensed = licensed_both header outside doing later front past two.licensed one.licensed;
  mine = each_both (IsMine header h) later front past two.mine one.mine;
  makes = of_both (MakesOn (length header.frames.items)) later front two.makes one.makes;
}

-- it takes a message that is for it
pub acts_one : (header : Header) (hosts : HostTable) (h : ℕ) (outside : Outside) (doing : Command) (past : List Event) (e : Event) → AllRest header hosts past
    → h < length header.frames.items → LicensedInTurn header outside doing e past
    → is_home header h e past ≡ true → IsNewTask e past → CreatesHere header h e past → MakesOn (length header.frames.items) e
    → Acts header h outside doing past (e ∷ [])
acts_one header hosts h outside doing past e all known licensed home new creates makes =
    let shut = (common_all header hosts past all).settled.shut in
    let enters : EntersNext e past = λ region opened. absurd (let bad : true ≡ false = sym opened ∙ shut region in cc) in
    record {
      known = known;
      licensed = (licensed, tt);
      mine = (
        record {
          enters = enters;
          own = own_of_home header outside h e past all.sound (doing, cause_of header outside doing e past licensed.0) enters new
              home;
          creates = creates;
        },
        tt,
      );
      makes = (makes, tt);
    }

-- every moment is such for each host
moments_all : (P : ℕ → List Event → Type 0) (events past : List Event) → ((g : ℕ) → MomentsIn (P g) events past)
    → MomentsIn (λ moment. (g : ℕ) → P g moment) events past
moments_all P [] past all = tt
moments_all P (e ∷ events) past all = (λ g. (all g).0, moments_all P events past (λ g. (all g).1))

said_all : (header : Header) (h : ℕ) (events past : List Event) → h < length header.frames.items → EachOf (KernelSays h header.size) events
    → EachIn (IsMine header h) events past → EachIn (SomeKernelSays header) events past
said_all header h [] past known said mine = tt
said_all header h (e ∷ events) past known said mine =
    (record { host = h; known = known; says = said.0; creates = mine.0.creates }, said_all header h events past known said.1 mine.1)

-- so they are no other host's
pub only_of : (header : Header) (h : ℕ) (events past : List Event) → EachIn (IsMine header h) events past → EachIn (IsOnlyOfHost header h) events past
only_of header h [] past mine = tt
only_of header h (e ∷ events) past mine = (mine.0.own, only_of header h events past mine.1)

module _ (header : Header) (h : ℕ) (outside : Outside) (doing : Command) (past events : List Event) (acts : Acts header h outside doing past events) where
  own : EachIn (IsOfHost header outside h) events past
  own = of_host header outside doing h events past acts.licensed acts.mine

  -- its events are nothing to the others
  pub others : (g : ℕ) → g ≢ h → EachIn (IsAbroad header outside g) events past
  others g apart = abroad_of_own header outside h g events past apart own

  -- so they suffice for all where the others' frames did in front of them
  pub acting_stretch : ((g : ℕ) → g ≢ h → Suffice header g past) → EachIn (OwnBytes header) events past → MomentsIn (Suffice header h) events past
      → AllInner events → EachOf (KernelSays h header.size) events
      → Stretch header outside doing past events
  acting_stretch suffice own_bytes frames inner said = record {
    licensed = acts.licensed;
    own_bytes = own_bytes;
    frames = moments_all (λ g moment. Suffice header g moment) events past frames_of;
    inner = inner;
    said = said_all header h events past acts.known said acts.mine;
  }
    where
      frames_of : (g : ℕ) → MomentsIn (Suffice header g) events past
      frames_of g = elim (ℕ_discrete g h) [
        | yes same ↦ subst (λ (z : ℕ). MomentsIn (Suffice header z) events past) (sym same) frames
        | no apart ↦ frames_abroad header outside g events past (others g apart) (suffice g apart)
      ]

-- the hosts below a number have served their queues, and nobody there waits in vain
abbrev pub SeenTo : Header → ℕ → HostTable → List Event → Type 0
SeenTo header n hosts past = (g : ℕ) (k : Parts) → g < n → slice_get hosts.kernels g ≡ Some k → HasQueue header g k past × PromptAt header g past

module _ (header : Header) (h : ℕ) (outside : Outside) (doing : Command) (hosts : HostTable) (past events : List Event) (all : AllRest header hosts past)
    (acts : Acts header h outside doing past events) (k : Parts) (next : Ids) (rests : Rests header h k next (events ++ past)) where
  within : h < length hosts.kernels
  within = let known = acts.known in let count = all.count in omega (arith, known, count)

  rests_at : (g : ℕ) (m : Parts) → slice_get (put hosts h k next).kernels g ≡ Some m → Rests header g m next (events ++ past)
  rests_at g m found = elim (set_cases hosts.kernels h g k m within found) [
    | inl same ↦ subst (λ (z : ℕ). Rests header z m next (events ++ past)) (sym same.0)
        (subst (λ (z : Parts). Rests header h z next (events ++ past)) same.1 rests)
    | inr apart ↦
        rests_abroad header outside g m hosts.ids events past all.sound (all.rests g m apart.1) (others header h outside doing past events acts g apart.0) next
        (common_of header h k next [] (events ++ past) rests.matches)
  ]

  pub acting_rests : AllRest header (put hosts h k next) (events ++ past)
  acting_rests = record {
    ranged = all.ranged;
    count = length-set {A = Parts} hosts.kernels h k ∙ all.count;
    rests = rests_at;
    sound = sound_more header outside h events past all.sound (own header h outside doing past events acts);
    tasks = tasks_more (length header.frames.items) events past acts.makes all.tasks;
    homes = homes_more (length header.frames.items) events past acts.makes all.tasks all.homes;
  }

  -- it serves its queue, behind those below it
  pub acting_seen : SeenTo header h hosts past → HasQueue header h k (events ++ past) → PromptAt header h (events ++ past)
      → SeenTo header (h + 1) (put hosts h k next) (events ++ past)
  acting_seen seen queue prompt g m less found = elim (set_cases hosts.kernels h g k m within found) [
    | inl same ↦
        subst (λ (z : ℕ). HasQueue header z m (events ++ past) × PromptAt header z (events ++ past)) (sym same.0)
        (subst (λ (z : Parts). HasQueue header h z (events ++ past)) same.1 queue, prompt)
    | inr apart ↦
        let far = apart.0 in
        let was = seen g m (omega (arith, less, far)) apart.1 in
        let rest = all.rests g m apart.1 in
        let abroad = others header h outside doing past events acts g apart.0 in (
          queue_abroad header outside g m hosts.ids events past all.sound rest abroad was.0,
          prompt_abroad header outside g m hosts.ids events past all.sound rest abroad was.1,
        )
  ]
