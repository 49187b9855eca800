-- A system stands for its history behind the step of a command that takes no message.
use Rattle.vm_system.proofs.Common.{AllFilesServe, AllInner, AllQueued, AllRest, AllServe, Arming, CanTell, CanTellAll, Channel, Code, Command, Device}
use Rattle.vm_system.proofs.Common.{DevicesHaveCause, EachOf, Event, FilesAreKept, Header, HostTable, IsOrderly, KeepsCanonical, Lawful, LeavesBacking}
use Rattle.vm_system.proofs.Common.{List, Makes, None, Numbered, OnErr, OnOk, Outside, PagingIsKept, Posts, Prompt, Result, SameHosts, Some, Spares, State}
use Rattle.vm_system.proofs.Common.{Stretch, SystemStands, Told, Went, [], all_lined, all_nobodys, all_refused, all_suffice, ap, append_assoc, arith, arms}
use Rattle.vm_system.proofs.Common.{devices, false, get_or, head, inl, inner_both, is_idle, length, none-some, of_both, queued_lined, queued_refused, refl}
use Rattle.vm_system.proofs.Common.{refusal, same_Some, slice_get, stretch_none, subst, suc, sym, takes_up, took_up, true, zero, ℕ, ◌++◌, ◌<◌, ◌∙◌, ◌∷◌, ◌≡◌}
use Rattle.std.specs.Prelude.{Ok, Err}
use Rattle.vm_model.specs.declared.event.Device.TheVariants as device
use Rattle.vm_model.specs.declared.event.Event.TheVariants as event
use Rattle.vm_model.specs.declared.command.Command.TheVariants as command
use Rattle.vm_system.proofs.Agreeing.{IsSpared, carry_spared, content_spared, devices_spared, files_spared, serve_spared, spared_said}
use Rattle.vm_model.specs.Ranges.{InRange}
use Rattle.vm_system.proofs.Cleaning.{IsAsked}
use Rattle.vm_system.proofs.Spoken.{asked_fine}
use Rattle.sms_server.specs.Stands.{IsOther as IsServerOther}
use Rattle.sms_server.proofs.Acting.{others_recall as recalled_other, others_serve as served_other, others_stand as server_other}
use Rattle.vm_system.proofs.Lawfulness.{lawful_line, lawful_more, others_said, recalled_more, served_more, server_more}
use Rattle.vm_system.proofs.Letters.{orderly_line}
use Rattle.vm_system.proofs.Sayings.{can_say, orderly_said}
use Rattle.vm_system.proofs.Following.{fit_same, kept_at, same_declared, same_files, same_pagers}
use Rattle.vm_system.proofs.Growth.{front_begun, grew_begun}
use Rattle.vm_system.proofs.Silent.{all_settled, paid_inner, prompt_code, prompt_line}
use Rattle.vm_system.proofs.Legal.{head_line, legal_refused, legal_settle}
use Rattle.vm_system.proofs.Sharing.{none_temporary}

-- what was told behind a line, and what the hosts are then
pub record IsTold (header : Header) (outside : Outside) (line : ℕ) (events : List Event) (hosts : HostTable) (s : State) : Type 0 where
  pub inner : AllInner events
  pub spared : EachOf IsSpared events
  pub silent : EachOf (IsServerOther header) events
  pub lawful : Lawful header outside (events ++ event.Line line ∷ s.history.items)
  pub orderly : IsOrderly header (events ++ event.Line line ∷ s.history.items)
  pub rests : AllRest header hosts (events ++ event.Line line ∷ s.history.items)
  pub queues : AllQueued header hosts (events ++ event.Line line ∷ s.history.items)

-- what the kernels say behind a line can be told
pub can_tell : (header : Header) (outside : Outside) (doing : Command) (line : ℕ) (events : List Event) (s : State) → SystemStands header outside s
    → Stretch header outside doing (event.Line line ∷ s.history.items) events
    → CanTellAll s.size events (event.Line line ∷ s.history.items)
can_tell header outside doing line events s stands stretch =
    let past = event.Line line ∷ s.history.items in
    subst (λ (z : ℕ). CanTellAll z events past) (sym stands.agrees.size)
    (can_say header outside doing past events (orderly_line header line s.history.items stands.agrees.orderly) stretch.licensed stretch.said stretch.inner)

pub told_said : (header : Header) (outside : Outside) (doing : Command) (line : ℕ) (events : List Event) (hosts : HostTable) (s : State)
    → SystemStands header outside s → Stretch header outside doing (event.Line line ∷ s.history.items) events
    → AllRest header hosts (events ++ event.Line line ∷ s.history.items) → AllQueued header hosts (events ++ event.Line line ∷ s.history.items)
    → IsTold header outside line events hosts s
told_said header outside doing line events hosts s stands stretch rests queues =
    let past = event.Line line ∷ s.history.items in
    record {
      inner = stretch.inner;
      spared = spared_said header events past stretch.said;
      silent = others_said header events past stretch.said;
      lawful =
          lawful_more header outside doing events past stretch.licensed stretch.own_bytes stretch.inner
          (lawful_line header outside line s.history.items stands.paid stands.agrees.lawful);
      orderly =
          orderly_said header outside doing past events (orderly_line header line s.history.items stands.agrees.orderly) stretch.licensed stretch.said
          stretch.inner;
      rests = rests;
      queues = queues;
    }

-- so can what a file's pager asks, and what the kernels say behind that

can_both : (size : ℕ) (later front past : List Event) → CanTellAll size later (front ++ past) → CanTellAll size front past
    → CanTellAll size (later ++ front) past
can_both size [] front past all before = before
can_both size (e ∷ later) front past all before =
    (subst (λ (z : List Event). CanTell size e z) (sym (append_assoc later front past)) all.0, can_both size later front past all.1 before)

-- what the head of a command asks
pub head_of : (header : Header) (doing : Command) (line : ℕ) (h past asked : List Event) → past ≡ event.Line line ∷ h → head header past doing ≡ Some asked
    → head header h doing ≡ Some asked
head_of header doing line h past asked front is = sym (head_line header line h doing) ∙ (sym (ap (λ (z : List Event). head header z doing) front) ∙ is)

pub asked_of : (header : Header) (outside : Outside) (doing : Command) (line : ℕ) (s : State) (past asked : List Event) → SystemStands header outside s
    → InRange header doing → refusal header s.history.items doing ≡ None → is_idle doing ≡ true → past ≡ event.Line line ∷ s.history.items
    → head header past doing ≡ Some asked → IsAsked header outside doing (event.Line line ∷ s.history.items) asked
asked_of header outside doing line s past asked stands range accepted idle front is =
    asked_fine header outside doing line s.history.items asked range accepted idle (head_of header doing line s.history.items past asked front is)

-- the hosts stand for what is asked
pub asked_rests : (header : Header) (outside : Outside) (doing : Command) (line : ℕ) (asked : List Event) (s : State) → SystemStands header outside s
    → IsAsked header outside doing (event.Line line ∷ s.history.items) asked
    → AllRest header s.hosts (asked ++ event.Line line ∷ s.history.items)
asked_rests header outside doing line asked s stands says =
    all_nobodys header outside doing s.hosts asked (event.Line line ∷ s.history.items)
    (all_lined header outside doing s.hosts line s.history.items stands.rests) says.controls says.nobodys says.licensed

pub can_ask : (header : Header) (outside : Outside) (doing : Command) (line : ℕ) (asked events : List Event) (hosts : HostTable) (s : State)
    → SystemStands header outside s
    → IsAsked header outside doing (event.Line line ∷ s.history.items) asked → Went header outside doing (event.Line line ∷ s.history.items) asked hosts events
    → CanTellAll s.size events (event.Line line ∷ s.history.items)
can_ask header outside doing line asked events hosts s stands says went =
    let past = event.Line line ∷ s.history.items in
    let orderly = orderly_line header line s.history.items stands.agrees.orderly in
    let stretch = went.follows.stretch in
    let later = can_say header outside doing (asked ++ past) went.more (says.orderly orderly) stretch.licensed stretch.said stretch.inner in
    subst (λ (z : ℕ). CanTellAll z events past) (sym stands.agrees.size)
    (subst (λ (z : List Event). CanTellAll header.size z past) (sym went.is) (can_both header.size went.more asked past later (says.can orderly)))

pub told_asked : (header : Header) (outside : Outside) (doing : Command) (line : ℕ) (asked events : List Event) (hosts : HostTable) (s : State)
    → SystemStands header outside s
    → IsAsked header outside doing (event.Line line ∷ s.history.items) asked → Went header outside doing (event.Line line ∷ s.history.items) asked hosts events
    → IsTold header outside line events hosts s
told_asked header outside doing line asked events hosts s stands says went =
    let past = event.Line line ∷ s.history.items in
    let orderly = orderly_line header line s.history.items stands.agrees.orderly in
    let stretch = went.follows.stretch in
    let more = went.more in
    let behind : IsOrderly header (more ++ (asked ++ past)) = orderly_said header outside doing (asked ++ past) more (says.orderly orderly) stretch.licensed
    stretch.said stretch.inner in
    let whole : events ++ past ≡ more ++ (asked ++ past) = ap (λ (z : List Event). z ++ past) went.is ∙ append_assoc more asked past in
    record {
      inner = subst AllInner (sym went.is) (inner_both more asked stretch.inner says.inner);
      spared = subst (EachOf IsSpared) (sym went.is) (of_both IsSpared more asked (spared_said header more (asked ++ past) stretch.said) says.spared);
      silent =
          subst (EachOf (IsServerOther header)) (sym went.is) (of_both (IsServerOther header) more asked (others_said header more (asked ++ past) stretch.said)
          says.silent);
      lawful = subst (Lawful header outside) (sym whole)
          (lawful_more header outside doing more (asked ++ past) stretch.licensed stretch.own_bytes stretch.inner
          (lawful_more header outside doing asked past says.licensed says.own_bytes says.inner
          (lawful_line header outside line s.history.items stands.paid stands.agrees.lawful)));
      orderly = subst (IsOrderly header) (sym whole) behind;
      rests = went.ended.rests;
      queues = went.ended.queues;
    }

-- the system stands for what was told
pub stands_told : (header : Header) (outside : Outside) (line : ℕ) (events : List Event) (hosts : HostTable) (old new : State) → SystemStands header outside old
    → IsTold header outside line events hosts old
    → SameHosts (record old { hosts = hosts; log = new.log }) new → Posts new new.history.items
    → new.history.items ≡ events ++ event.Line line ∷ old.history.items → new.log.items ≡ [] → SystemStands header outside new
stands_told header outside line events hosts old new stands told same posts grown none =
    let h = old.history.items in
    let past = event.Line line ∷ h in
    let agrees = stands.agrees in
    let serve : AllServe header old.pagers.items (events ++ past) = serve_spared header old.pagers.items events past told.spared
    (serve_spared header old.pagers.items (event.Line line ∷ []) h (tt, tt) agrees.pagers) in
    let filed : AllFilesServe header old.files.items (events ++ past) = files_spared header old.files.items events past told.spared
    (files_spared header old.files.items (event.Line line ∷ []) h (tt, tt) agrees.files) in
    record {
      built = stands.built;
      rests = rw (grown, same.hosts) told.rests;
      queues = rw (grown, same.hosts) told.queues;
      agrees = record {
        size = same.size ∙ agrees.size;
        declared = same_declared (record old { hosts = hosts; log = new.log }) new same ∙ agrees.declared;
        pagers = rw (grown, same_pagers (record old { hosts = hosts; log = new.log }) new same) serve;
        files = rw (grown, same_files (record old { hosts = hosts; log = new.log }) new same) filed;
        server =
            rw (grown, same.server) (server_more header old.server events past told.silent
            (server_other header old.server (event.Line line) h tt agrees.server));
        posts = posts;
        orderly = rw grown told.orderly;
        lawful = rw grown told.lawful;
      };
      paid = rw grown (paid_inner header line h events told.inner (all_settled header hosts (events ++ past) told.rests));
      served = rw grown (served_more header events past told.silent (served_other header (event.Line line) h tt stands.served));
      recalled = rw grown (recalled_more header events past told.silent (recalled_other header (event.Line line) h tt stands.recalled));
      log = none;
    }

-- the step of a command is what was told behind the line
pub makes_told : (header : Header) (outside : Outside) (numbered : Numbered) (events : List Event) (hosts : HostTable) (old new : State)
    → SystemStands header outside old → IsTold header outside numbered.line events hosts old
    → KeepsCanonical header outside numbered old.history.items (events ++ event.Line numbered.line ∷ old.history.items)
    → (Prompt header old.history.items → Prompt header (events ++ event.Line numbered.line ∷ old.history.items))
    → SameHosts (record old { hosts = hosts; log = new.log }) new → Posts new new.history.items
    → new.history.items ≡ events ++ event.Line numbered.line ∷ old.history.items → new.log.items ≡ [] → Makes header outside numbered old new
makes_told header outside numbered events hosts old new stands told legal prompt same posts grown none = record {
  stands = stands_told header outside numbered.line events hosts old new stands told same posts grown none;
  legal = rw grown legal;
  prompt = λ before. rw grown (prompt before);
  grew = grew_begun numbered.line events old.history.items new.history.items grown told.inner;
  front = front_begun numbered.line events old.history.items new.history.items grown told.inner;
}

-- events in which no pager has a part spare the pagers

paging_spared : (header : Header) (outside : Outside) (areas : List ℕ → Told) (events : List Event) (old new : State) → EachOf IsSpared events
    → new.pagers.items ≡ old.pagers.items → new.history.items ≡ events ++ old.history.items
    → PagingIsKept header outside areas old → PagingIsKept header outside areas new
paging_spared header outside areas events old new spared pagers grown kept =
    let h = old.history.items in
    kept_at header outside areas new old.pagers.items (events ++ h) pagers grown (serve_spared header old.pagers.items events h spared kept.pagers) kept.told
    (λ on. fit_same header areas old.pagers.items h (events ++ h) (λ host. content_spared header host events h spared) (kept.fits on))

files_kept : (header : Header) (outside : Outside) (areas : List ℕ → Told) (events : List Event) (old new : State) → EachOf IsSpared events
    → new.files.items ≡ old.files.items → new.history.items ≡ events ++ old.history.items
    → FilesAreKept header outside areas old → FilesAreKept header outside areas new
files_kept header outside areas events old new spared files grown kept = record {
  files = rw (grown, files) (files_spared header old.files.items events old.history.items spared kept.files);
  start = kept.start;
  told = kept.told;
  kept = rw grown (carry_spared header kept.start areas events old.history.items spared kept.kept);
}

pub spares_by : (header : Header) (outside : Outside) (events : List Event) (old new : State) → EachOf IsSpared events → new.pagers.items ≡ old.pagers.items
    → new.files.items ≡ old.files.items → new.history.items ≡ events ++ old.history.items
    → Spares header outside old new
spares_by header outside events old new spared pagers files grown = record {
  paging = record {
    kept = λ areas kept. paging_spared header outside areas events old new spared pagers grown kept;
    devices = ap (devices device.Paging) grown ∙ devices_spared device.Paging events old.history.items spared;
  };
  files = record {
    kept = λ areas kept. files_kept header outside areas events old new spared files grown kept;
    carried = λ start areas carry. rw grown (carry_spared header start areas events old.history.items spared carry);
    devices = ap (devices device.Files) grown ∙ devices_spared device.Files events old.history.items spared;
  };
}

-- so it is with what was told behind a line
pub spares_told : (header : Header) (outside : Outside) (line : ℕ) (events : List Event) (hosts : HostTable) (old new : State)
    → IsTold header outside line events hosts old → SameHosts (record old { hosts = hosts; log = new.log }) new
    → new.history.items ≡ events ++ event.Line line ∷ old.history.items → Spares header outside old new
spares_told header outside line events hosts old new told same grown =
    spares_by header outside (events ++ event.Line line ∷ []) old new (of_both IsSpared events (event.Line line ∷ []) told.spared (tt, tt))
    (same_pagers (record old { hosts = hosts; log = new.log }) new same) (same_files (record old { hosts = hosts; log = new.log }) new same)
    (grown ∙ sym (append_assoc events (event.Line line ∷ []) old.history.items))

-- the log is what it was

pub logged : (old new : State) → SameHosts old new → SameHosts (record old { log = new.log }) new
logged old new same =
    record { size = same.size; hosts = same.hosts; pagers = same.pagers; declared = same.declared; files = same.files; server = same.server; log = refl }

empty_log : (header : Header) (outside : Outside) (old new : State) → SystemStands header outside old → SameHosts old new → new.log.items ≡ []
empty_log header outside old new stands same = rw same.log stands.log

-- the code of a refusal, or nothing, follows the line

pub told_code : (header : Header) (outside : Outside) (doing : Command) (why : Code) (line : ℕ) (s : State) → SystemStands header outside s
    → IsTold header outside line (event.Refused why ∷ []) s.hosts s
told_code header outside doing why line s stands =
    let past = event.Line line ∷ s.history.items in
    let hosts = stands.built.ranged.hosts in
    let rests = all_lined header outside doing s.hosts line s.history.items stands.rests in
    let stretch : Stretch header outside doing past (event.Refused why ∷ []) = record {
      licensed = ((tt, tt), tt);
      own_bytes = (tt, tt);
      frames = (all_suffice header s.hosts s.history.items stands.rests, tt);
      inner = (tt, tt);
      said = (record { host = 0; known = omega (arith, hosts.0); says = tt; creates = tt }, tt);
    } in
    told_said header outside doing line (event.Refused why ∷ []) s.hosts s stands stretch (all_refused header outside doing s.hosts why past rests)
    (queued_refused header outside doing s.hosts why past rests (queued_lined header outside doing s.hosts line s.history.items stands.rests stands.queues))

pub makes_refused : (header : Header) (outside : Outside) (numbered : Numbered) (why : Code) (old new : State) → SystemStands header outside old
    → refusal header old.history.items numbered.command ≡ Some why → SameHosts old new
    → Posts new new.history.items → new.history.items ≡ event.Refused why ∷ event.Line numbered.line ∷ old.history.items → Makes header outside numbered old new
makes_refused header outside numbered why old new stands refused same posts grown =
    makes_told header outside numbered (event.Refused why ∷ []) old.hosts old new stands
    (told_code header outside numbered.command why numbered.line old stands)
    (legal_refused header outside numbered why old.history.items (none_temporary header stands.built.ranged) refused)
    (λ prompt. prompt_code header why (event.Line numbered.line ∷ old.history.items) (prompt_line header numbered.line old.history.items prompt))
    (logged old new same) posts grown (empty_log header outside old new stands same)

pub told_none : (header : Header) (outside : Outside) (doing : Command) (line : ℕ) (s : State) → SystemStands header outside s
    → IsTold header outside line [] s.hosts s
told_none header outside doing line s stands =
    let h = s.history.items in
    told_said header outside doing line [] s.hosts s stands (stretch_none header outside doing (event.Line line ∷ h))
    (all_lined header outside doing s.hosts line h stands.rests) (queued_lined header outside doing s.hosts line h stands.rests stands.queues)

pub makes_lined : (header : Header) (outside : Outside) (line count : ℕ) (old new : State) → SystemStands header outside old → SameHosts old new
    → Posts new new.history.items
    → new.history.items ≡ event.Line line ∷ old.history.items → Makes header outside (record { line = line; command = command.Settle count }) old new
makes_lined header outside line count old new stands same posts grown =
    makes_told header outside (record { line = line; command = command.Settle count }) [] old.hosts old new stands
    (told_none header outside (command.Settle count) line old stands)
    (legal_settle header outside line count old.history.items (none_temporary header stands.built.ranged))
    (λ prompt. prompt_line header line old.history.items prompt) (logged old new same) posts grown (empty_log header outside old new stands same)

-- parts that are as they were are so behind two calls
pub same_hosts : (old mid new : State) → SameHosts old mid → SameHosts mid new → SameHosts old new
same_hosts old mid new one two =
    record {
      size = two.size ∙ one.size;
      hosts = two.hosts ∙ one.hosts;
      pagers = two.pagers ∙ one.pagers;
      declared = two.declared ∙ one.declared;
      files = two.files ∙ one.files;
      server = two.server ∙ one.server;
      log = two.log ∙ one.log;
    }

-- one event more on top of a history
pub one_more : (e : Event) (h old new : List Event) → old ≡ h → new ≡ e ∷ old → new ≡ e ∷ h
one_more e h old new same grown = grown ∙ ap (λ z. e ∷ z) same

-- what follows where a call was Ok

pub on_both : {A B : Type 0} {P Q R : Type 0} (r : Result A B) → (P → Q → R) → OnOk r P → OnOk r Q → OnOk r R
on_both (Ok x) f p q = f p q
on_both (Err e) f p q = tt

-- and where it was Ok or not
pub on_either : {A B : Type 0} {P Q R : Type 0} (r : Result A B) → (P → R) → (Q → R) → OnOk r P → OnErr r Q → R
on_either (Ok x) f g p q = f p
on_either (Err e) f g p q = g q

pub on_errs : {A B : Type 0} {P Q R S : Type 0} (r : Result A B) → (P → Q → R → S) → OnErr r P → OnErr r Q → OnErr r R → OnErr r S
on_errs (Ok x) f p q s = tt
on_errs (Err e) f p q s = f p q s

-- an entry of a list that is long enough
pub there_at : {A : Type 0} (xs : List A) (n : ℕ) (x : A) (count : ℕ) → length xs ≡ count → n < count → x ≡ get_or xs n x → slice_get xs n ≡ Some x
there_at [] n x count long below is = absurd (omega (arith, long, below))
there_at (y ∷ xs) zero x count long below is = ap (λ z. Some z) (sym is)
there_at (y ∷ xs) (suc n) x count long below is = there_at xs n x (length xs) refl (omega (arith, long, below)) is

-- what a step leaves of the backings

pub causes_same : (who : Device) (faults : ℕ) (old new : List Event) → devices who new ≡ devices who old → DevicesHaveCause who faults faults old new
causes_same who faults old new same = record { later = omega arith; few = omega (arith, same); cause = inl same; spared = λ none. refl }

pub leaves_same : {B : Type 0} (header : Header) (who : Device) (doing : Command) (history : List Event) (backing : Arming B) → arms who doing ≡ None
    → LeavesBacking header who doing history backing backing
leaves_same header who doing history backing unarmed = record {
  armed = λ count is. absurd (let bad : None ≡ Some count = sym unarmed ∙ is in cc);
  same = λ none apart. refl;
  asked = λ none apart. refl;
}

arms_taken : (who : Device) (channel : Channel) (count : ℕ) → arms who (command.Take channel) ≡ Some count → ⊥
arms_taken device.Files channel count is = absurd (let bad : None ≡ Some count = is in cc)
arms_taken device.Paging channel count is = absurd (let bad : None ≡ Some count = is in cc)

pub leaves_taken : {B : Type 0} (header : Header) (who : Device) (channel : Channel) (history : List Event) (old new : Arming B)
    → (takes_up header who (command.Take channel) ≡ false → new ≡ old) → (took_up header who history ≡ false → new ≡ old)
    → LeavesBacking header who (command.Take channel) history old new
leaves_taken header who channel history old new same asked = record {
  armed = λ count is. absurd (arms_taken who channel count is);
  same = λ none apart. same apart;
  asked = λ none apart. asked apart;
}

pub leaves_taken_by : {B : Type 0} (header : Header) (who : Device) (doing : Command) (channel : Channel) (history : List Event) (old new : Arming B)
    → doing ≡ command.Take channel → (takes_up header who (command.Take channel) ≡ false → new ≡ old) → (took_up header who history ≡ false → new ≡ old)
    → LeavesBacking header who doing history old new
leaves_taken_by header who doing channel history old new is same asked =
    subst (λ (z : Command). LeavesBacking header who z history old new) (sym is) (leaves_taken header who channel history old new same asked)

pub leaves_armed : {B : Type 0} (header : Header) (who : Device) (doing : Command) (history : List Event) (count left : ℕ) (old new : Arming B)
    → arms who doing ≡ Some count → left ≡ count → new ≡ record { inner = old.inner; left = left; reached = old.reached }
    → LeavesBacking header who doing history old new
leaves_armed {B} header who doing history count left old new armed same is = record {
  armed = λ n at. subst (λ (z : ℕ). new ≡ record { inner = old.inner; left = z; reached = old.reached }) (same ∙ same_Some count n (sym armed ∙ at)) is;
  same = λ none apart. absurd (none-some count (sym none ∙ armed));
  asked = λ none apart. absurd (none-some count (sym none ∙ armed));
}

-- only these two arm a backing
pub arms_none : (who : Device) (doing : Command) → ((count : ℕ) → doing ≡ command.FailFiles count → ⊥) → ((count : ℕ) → doing ≡ command.FailPaging count → ⊥)
    → arms who doing ≡ None
arms_none device.Files (command.FailFiles count) files paging = absurd (files count refl)
arms_none device.Paging (command.FailPaging count) files paging = absurd (paging count refl)
arms_none who other files paging = refl

-- and neither is refused, nor is a settle
pub arms_refused : (who : Device) (header : Header) (h : List Event) (doing : Command) (why : Code) → refusal header h doing ≡ Some why → arms who doing ≡ None
arms_refused who header h (command.FailFiles count) why is = absurd (let bad : None ≡ Some why = is in cc)
arms_refused who header h (command.FailPaging count) why is = absurd (let bad : None ≡ Some why = is in cc)
arms_refused device.Files header h other why is = refl
arms_refused device.Paging header h other why is = refl

pub settle_refused : (header : Header) (h : List Event) (doing : Command) (why : Code) → refusal header h doing ≡ Some why → (count : ℕ)
    → doing ≡ command.Settle count → ⊥
settle_refused header h (command.Settle number) why is count same = let bad : None ≡ Some why = is in absurd (cc)
settle_refused header h (command.FailFiles number) why is count same = let bad : None ≡ Some why = is in absurd (cc)
settle_refused header h other why is count same = let bad : None ≡ Some why = subst (λ (z : Command). refusal header h z ≡ Some why) same is in absurd (cc)
