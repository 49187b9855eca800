-- The hosts serve their frame queues, by rising number.
use Rattle.vm_hosts.proofs.Common.{AllRest, Command, Down, EachIn, EndsInTurn, Event, EventsFollow, HasQueue, Header, HostTable, Ids, IsOnlyOfHost, LegalEvents}
use Rattle.vm_hosts.proofs.Common.{List, NextServes, NoneServed, Outside, PartInTurn, Parts, PromptAt, Rests, ServeInTurn, Served, Suffice, Went, [], add-one}
use Rattle.vm_hosts.proofs.Common.{ap, append-nil, append_assoc, arith, length, refl, slice_get_within, subst, sym, ℕ, ◌++◌, ◌+◌, ◌<◌, ◌∙◌, ◌∷◌, ◌≡◌, ◌≢◌}
use Rattle.vm_model.specs.declared.event.Event.TheVariants as event
use Rattle.vm_hosts.proofs.Acting.{Acts, SeenTo, acting_rests, acting_seen, acting_stretch, makes_all, only_of}
use Rattle.vm_hosts.proofs.Stretches.{follows_both, follows_none}
use Rattle.vm_hosts.proofs.Tables.{all_suffice, kernel_of, put}

-- what a kernel's call goes on by is its host's
pub acts_goes : (header : Header) (h : ℕ) (outside : Outside) (doing : Command) (past old new : List Event) → h < length header.frames.items
    → (goes : LegalEvents header h outside doing past old new) → Acts header h outside doing (old ++ past) goes.more
acts_goes header h outside doing past old new known goes =
    record { known = known; licensed = goes.licensed; mine = goes.mine; makes = makes_all (length header.frames.items) h header.size goes.more known goes.said }

pub follows_goes : (header : Header) (h : ℕ) (outside : Outside) (doing : Command) (past old new : List Event) → h < length header.frames.items
    → ((g : ℕ) → g ≢ h → Suffice header g (old ++ past)) → (goes : LegalEvents header h outside doing past old new)
    → EventsFollow header outside doing (old ++ past) goes.more
follows_goes header h outside doing past old new known suffice goes = record {
  follows = goes.follows;
  stretch =
      acting_stretch header h outside doing (old ++ past) goes.more (acts_goes header h outside doing past old new known goes) suffice goes.own_bytes
      goes.frames goes.inner goes.said;
}

-- the hosts below a number have served theirs
pub record Serving (header : Header) (outside : Outside) (doing : Command) (past old : List Event) (n : ℕ) (hosts : HostTable) (new : List Event) : Type 0 where
  pub rests : AllRest header hosts (new ++ past)
  pub seen : SeenTo header n hosts (new ++ past)
  pub more : List Event
  pub is : new ≡ more ++ old
  pub follows : EventsFollow header outside doing (old ++ past) more
  pub turns : ServeInTurn header (old ++ past) n more

pub serving_start : (header : Header) (outside : Outside) (doing : Command) (past old : List Event) (hosts : HostTable) → AllRest header hosts (old ++ past)
    → Serving header outside doing past old 0 hosts old
serving_start header outside doing past old hosts all =
    record {
      rests = all;
      seen = λ g k less found. absurd (omega arith);
      more = [];
      is = refl;
      follows = follows_none header outside doing (old ++ past);
      turns = NoneServed;
    }

-- the next one serves its own
serving_next : (header : Header) (outside : Outside) (doing : Command) (past old mid new : List Event) (n : ℕ) (hosts : HostTable) (k : Parts) (ids : Ids)
    → n < length hosts.kernels → Serving header outside doing past old n hosts mid
    → Served header n outside doing past mid k ids new → Serving header outside doing past old (n + 1) (put hosts n k ids) new
serving_next header outside doing past old mid new n hosts k ids within was served =
    let count = was.rests.count in
    let known : n < length header.frames.items = omega (arith, within, count) in
    let goes = served.goes in
    let same : new ++ past ≡ goes.more ++ (mid ++ past) = ap (λ z. z ++ past) goes.is ∙ append_assoc goes.more mid past in
    let acts = acts_goes header n outside doing past mid new known goes in
    let rests : Rests header n k ids (goes.more ++ (mid ++ past)) = subst (Rests header n k ids) same served.rests in
    let before : mid ++ past ≡ was.more ++ (old ++ past) = ap (λ z. z ++ past) was.is ∙ append_assoc was.more old past in
    record {
      rests =
          subst (AllRest header (put hosts n k ids)) (sym same) (acting_rests header n outside doing hosts (mid ++ past) goes.more was.rests acts k ids rests);
      seen =
          subst (SeenTo header (n + 1) (put hosts n k ids)) (sym same)
          (acting_seen header n outside doing hosts (mid ++ past) goes.more was.rests acts k ids rests was.seen
          (subst (λ z. HasQueue header n k z) same served.queue) (subst (λ z. PromptAt header n z) same served.prompt));
      more = goes.more ++ was.more;
      is = goes.is ∙ (ap (λ z. goes.more ++ z) was.is ∙ sym (append_assoc goes.more was.more old));
      follows =
          follows_both header outside doing (old ++ past) was.more goes.more was.follows
          (subst (λ (z : List Event). EventsFollow header outside doing z goes.more) before
          (follows_goes header n outside doing past mid new known (λ g apart. all_suffice header hosts (mid ++ past) was.rests g) goes));
      turns =
          subst (λ (z : ℕ). ServeInTurn header (old ++ past) z (goes.more ++ was.more)) (sym (add-one n))
          (NextServes n was.more goes.more was.turns (subst (λ (z : List Event). EachIn (IsOnlyOfHost header n) goes.more z) before
          (only_of header n goes.more (mid ++ past) goes.mine)));
    }

pub serving_more : (header : Header) (outside : Outside) (doing : Command) (past old mid new : List Event) (n h : ℕ) (hosts : HostTable) (k : Parts) (ids : Ids)
    → h ≡ n → n < length hosts.kernels → Serving header outside doing past old n hosts mid
    → Served header h outside doing past mid k ids new → Serving header outside doing past old (n + 1) (put hosts n k ids) new
serving_more header outside doing past old mid new n h hosts k ids same within was served =
    serving_next header outside doing past old mid new n hosts k ids within was (subst (λ (z : ℕ). Served header z outside doing past mid k ids new) same
    served)

pub serving_done : (header : Header) (outside : Outside) (doing : Command) (past old new : List Event) (n : ℕ) (hosts : HostTable) → length hosts.kernels ≡ n
    → Serving header outside doing past old n hosts new → Went header outside doing past old hosts new
serving_done header outside doing past old new n hosts all was = record {
  ended =
      record {
        rests = was.rests;
        queues = λ g k found. (was.seen g k (let within = slice_get_within hosts.kernels g k found in omega (arith, within, all)) found).0;
        prompt = λ g known.
            let some = kernel_of header hosts (new ++ past) was.rests g known in
            (was.seen g some.0 (let within = slice_get_within hosts.kernels g some.0 some.1 in omega (arith, within, all)) some.1).1;
      };
  more = was.more;
  is = was.is;
  follows = was.follows;
  turns = subst (λ (z : ℕ). ServeInTurn header (old ++ past) z was.more) (sym all ∙ was.rests.count) was.turns;
}

-- behind what one host did
pub turns_went : (header : Header) (outside : Outside) (doing : Command) (h : ℕ) (past events : List Event) (hosts : HostTable) (new : List Event)
    → EachIn (IsOnlyOfHost header h) events past → Went header outside doing past events hosts new
    → EndsInTurn header h past new
turns_went header outside doing h past events hosts new own went = record { front = events; served = went.more; is = went.is; own = own; turns = went.turns }

-- behind nothing
pub turns_part : (header : Header) (past events : List Event) → ServeInTurn header past (length header.frames.items) events → PartInTurn header past events
turns_part header (event.Taken (Down host object control) m ∷ past) events turns =
    record { front = []; served = events; is = sym (append-nil events); own = tt; turns = turns }
turns_part header past events turns = turns
