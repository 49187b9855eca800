-- A command's step.
use Rattle.vm_hosts.proofs.Common.{ActsOn, AllRest, Began, Command, Event, Header, Heads, HostTable, Ids, InRange, IsDoneInTurn, IsLined, List, None, Outside}
use Rattle.vm_hosts.proofs.Common.{Parts, Ran, Starts, Went, [], acts_on, ap, done_more, kernel_runs, length, paid_of, refusal, subst, sym, true, ℕ, ◌++◌, ◌<◌}
use Rattle.vm_hosts.proofs.Common.{◌∙◌, ◌≡◌}
use Rattle.vm_hosts.proofs.Acting.{Acts, acting_rests, acting_stretch, makes_all, only_of}
use Rattle.vm_hosts.proofs.Serving.{turns_went}
use Rattle.vm_hosts.proofs.Stretches.{heads_more}
use Rattle.vm_hosts.proofs.Tables.{Found, all_suffice, common_all, put}

module _ (header : Header) (outside : Outside) (doing : Command) (past events : List Event) (hosts : HostTable) (h : ℕ) (k : Parts) (ids : Ids)
    (known : h < length header.frames.items) (all : AllRest header hosts past) (ran : Ran header h outside doing past k ids events) where
  acts : Acts header h outside doing past events
  acts =
      record {
        known = known;
        licensed = ran.grows.licensed;
        mine = ran.grows.mine;
        makes = makes_all (length header.frames.items) h header.size events known ran.grows.said;
      }

  pub ran_rests : AllRest header (put hosts h k ids) (events ++ past)
  ran_rests = acting_rests header h outside doing hosts past events all acts k ids ran.rests

  pub ran_heads : Heads header outside doing past events
  ran_heads =
      let grows = ran.grows in
      record {
        first = grows.first;
        more = grows.more;
        head = grows.head;
        is = grows.is;
        follows = grows.follows;
        stretch =
            acting_stretch header h outside doing past events acts (λ g apart. all_suffice header hosts past all g) grows.own_bytes grows.frames grows.inner
            grows.said;
      }

-- a kernel may run the command
pub starts_of : (header : Header) (doing : Command) (past events : List Event) (hosts : HostTable) (h : ℕ) (k : Parts) → Found header hosts past h k
    → acts_on h doing past ≡ true → InRange header doing → refusal header past doing ≡ None
    → IsLined past → events ≡ [] → Starts header k.host.0 doing past k hosts.ids events
starts_of header doing past events hosts h k found acts range accepted begins nothing =
    record {
      rests = found.rests;
      acts = ap (λ (z : ℕ). acts_on z doing past) found.number ∙ acts;
      range = range;
      accepted = accepted;
      begins = begins;
      nothing = nothing;
    }

-- the same where the kernel goes by its own number
pub rests_ran : (header : Header) (outside : Outside) (doing : Command) (past events : List Event) (hosts : HostTable) (h g : ℕ) (k : Parts) (ids : Ids) → g ≡ h
    → h < length header.frames.items → AllRest header hosts past → Ran header g outside doing past k ids events
    → AllRest header (put hosts h k ids) (events ++ past)
rests_ran header outside doing past events hosts h g k ids same known all ran =
    ran_rests header outside doing past events hosts h k ids known all (subst (λ (z : ℕ). Ran header z outside doing past k ids events) same ran)

-- the hosts have served their queues behind it
pub began : (header : Header) (outside : Outside) (doing : Command) (past events : List Event) (hosts : HostTable) (h g : ℕ) (k : Parts) (ids : Ids)
    (last : HostTable) (new : List Event) → g ≡ h → ActsOn header h doing past → AllRest header hosts past
    → Ran header g outside doing past k ids events → kernel_runs doing ≡ true → IsLined past → Went header outside doing past events last new
    → Began header outside doing past last new
began header outside doing past events hosts h g k ids last new same acts all ran built lined went =
    let mine : Ran header h outside doing past k ids events = subst (λ (z : ℕ). Ran header z outside doing past k ids events) same ran in
    let heads = heads_more header outside doing past events went.more (ran_heads header outside doing past events hosts h k ids acts.known all mine)
    went.follows in
    let whole : Heads header outside doing past new = subst (Heads header outside doing past) (sym went.is) heads in
    record {
      ended = went.ended;
      heads = whole;
      done =
          subst (λ (z : List Event). IsDoneInTurn header doing z past) (sym went.is)
          (done_more header doing past events went.more built went.follows.stretch.inner ran.done);
      paid = paid_of header past new lined whole.stretch.inner (common_all header last (new ++ past) went.ended.rests).settled.none_owed;
      host = h;
      acts = acts;
      turns = turns_went header outside doing h past events last new (only_of header h events past mine.grows.mine) went;
    }
