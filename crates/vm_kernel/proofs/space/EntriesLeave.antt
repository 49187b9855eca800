-- Entries go out of the counts in turn, and their regions end so.
use Rattle.vm_kernel.proofs.Common.{All, All-cons, All-nil, Below, Command, EachOf, Entry, Event, Header, Ids, IsEnding, List, Outside, Parts, RegionId, Sweeps}
use Rattle.vm_kernel.proofs.Common.{TaskId, Up, [], ap, append_assoc, arith, backing_of, count_on, drop, entries_in_row, eqb_tells, inl, inr, of_both, refl}
use Rattle.vm_kernel.proofs.Common.{region_entries, region_of, slice_get, Some, subst, sym, ℕ, ◌++◌, ◌+◌, ◌∙◌, ◌∷◌, ◌≡◌, ◌≢◌}
use Rattle.vm_kernel.proofs.memory.PagesShown.{itself}
use Rattle.vm_kernel.proofs.space.CountsChanged.{next_row}
use Rattle.vm_kernel.proofs.space.RegionRows.{region_row}
use Rattle.vm_kernel.specs.Endings.{CountsOut, EndBehind, EndInTurn, EndsAndMerges, EndsBelow, EndsInRegion, EndsSoFar, EndsUnder, NoneCounted, RegionEnds}
use Rattle.vm_kernel.specs.Endings.{RegionStays}
use Rattle.vm_model.specs.Regions.{Backing, Region}
use Rattle.vm_model.specs.declared.event.Event.TheVariants as event
use Rattle.vm_model.specs.declared.message.Message.TheVariants as message

-- the regions and what stands under objects are the same behind two histories
pub record SameChains (header : Header) (new old : List Event) : Type 0 where
  pub regions : (r : ℕ) → region_of header r new ≡ region_of header r old
  pub backings : (o : ℕ) → backing_of header o new ≡ backing_of header o old

-- what ends something leaves them

still_one : (header : Header) (past : List Event) (e : Event) → IsEnding e → SameChains header (e ∷ past) past
still_one header past (event.Dropped host object page) is = record { regions = λ r. refl; backings = λ o. refl }
still_one header past (event.Sent (Up host object) (message.Return control page dirty keep bytes)) is = record { regions = λ r. refl; backings = λ o. refl }
still_one header past (event.Sent (Up host object) (message.Terminate control)) is = record { regions = λ r. refl; backings = λ o. refl }
still_one header past other is = absurd is

still_all : (header : Header) (past more : List Event) → EachOf IsEnding more → SameChains header (more ++ past) past
still_all header past [] all = record { regions = λ r. refl; backings = λ o. refl }
still_all header past (e ∷ more) all =
    let one = still_one header (more ++ past) e all.0 in
    let rest = still_all header past more all.1 in
    record { regions = λ r. one.regions r ∙ rest.regions r; backings = λ o. one.backings o ∙ rest.backings o }

under_ending : (header : Header) (past : List Event) (top : ℕ) (e : Event) → EndsUnder header past top e → IsEnding e
under_ending header past top (event.Dropped host object page) is = tt
under_ending header past top (event.Sent (Up host object) (message.Return control page dirty keep bytes)) is = tt
under_ending header past top (event.Sent (Up host object) (message.Terminate control)) is = tt
under_ending header past top other is = absurd is

each_ending : (header : Header) (past : List Event) (top : ℕ) (events : List Event) → EachOf (EndsUnder header past top) events → EachOf IsEnding events
each_ending header past top [] all = tt
each_ending header past top (e ∷ events) all = (under_ending header past top e all.0, each_ending header past top events all.1)

turns_ending : (header : Header) (past : List Event) (gone left : List Entry) (events : List Event) → EndInTurn header past gone left events
    → EachOf IsEnding events
turns_ending header past gone _ _ NoneCounted = tt
turns_ending header past gone _ _ (RegionStays row left events before) = turns_ending header past gone (row ∷ left) events before
turns_ending header past gone _ _ (RegionEnds row left more events before alone each) =
    of_both IsEnding more events (each_ending header past (region_of header row.region.0 past).top more each)
    (turns_ending header past gone (row ∷ left) events before)

-- so what is behind the one is behind the other

below_as : (header : Header) (new old : List Event) (n top o : ℕ) → SameChains header new old → Below (λ o. backing_of header o new) n top o
    → Below (λ o. backing_of header o old) n top o
below_as header new old n top o same below = subst (λ (z : ℕ → Backing). Below z n top o) (λ i x. same.backings x i) below

under_as : (header : Header) (new old : List Event) (top : ℕ) → SameChains header new old → (e : Event) → EndsUnder header new top e
    → EndsUnder header old top e
under_as header new old top same (event.Dropped host object page) is = (is.0, below_as header new old is.0 top object.0 same is.1)
under_as header new old top same (event.Sent (Up host object) (message.Return control page dirty keep bytes)) is =
    (is.0, below_as header new old is.0 top object.0 same is.1)
under_as header new old top same (event.Sent (Up host object) (message.Terminate control)) is = (is.0, below_as header new old is.0 top object.0 same is.1)
under_as header new old top same other is = absurd is

each_as : (header : Header) (new old : List Event) (top : ℕ) → SameChains header new old → (events : List Event) → EachOf (EndsUnder header new top) events
    → EachOf (EndsUnder header old top) events
each_as header new old top same [] all = tt
each_as header new old top same (e ∷ events) all = (under_as header new old top same e all.0, each_as header new old top same events all.1)

region_as : (header : Header) (new old : List Event) (r : ℕ) → SameChains header new old → (events : List Event) → EachOf (EndsInRegion header new r) events
    → EachOf (EndsInRegion header old r) events
region_as header new old r same events all =
    subst (λ (z : ℕ). EachOf (EndsUnder header old z) events) (ap (λ (z : Region). z.top) (same.regions r))
    (each_as header new old (region_of header r new).top same events all)

turns_as : (header : Header) (new old : List Event) (gone left : List Entry) (events : List Event) → SameChains header new old
    → EndInTurn header new gone left events → EndInTurn header old gone left events
turns_as header new old gone _ _ same NoneCounted = NoneCounted
turns_as header new old gone _ _ same (RegionStays row left events before) =
    RegionStays row left events (turns_as header new old gone (row ∷ left) events same before)
turns_as header new old gone _ _ same (RegionEnds row left more events before alone each) =
    RegionEnds row left more events (turns_as header new old gone (row ∷ left) events same before) alone (region_as header new old row.region.0 same more each)

-- one entry more is counted out

pub none_so_far : (header : Header) (past : List Event) (gone : List Entry) (events : List Event) → EndsSoFar header past gone gone events events
none_so_far header past gone events = record { more = []; is = refl; turns = NoneCounted }

pub next_out : (header : Header) (past : List Event) (gone rows left : List Entry) (start events after : List Event)
    → EndsSoFar header (start ++ past) gone rows start events → CountsOut header (events ++ past) rows left events after
    → EndsSoFar header (start ++ past) gone left start after
next_out header past gone rows left start events after so out =
    let turns = subst (λ (z : List Entry). EndInTurn header (start ++ past) gone z so.more) out.is so.turns in
    let same = still_all header (start ++ past) so.more (turns_ending header (start ++ past) gone rows so.more so.turns) in
    let here = subst (λ (z : List Event). SameChains header z (start ++ past)) (sym (ap (λ z. z ++ past) so.is ∙ append_assoc so.more start past)) same in
    elim out.ends [
      | inl nothing ↦ record { more = so.more; is = nothing ∙ so.is; turns = RegionStays out.row left so.more turns }
      | inr last ↦
          let below = last.below in
          record {
            more = below.more ++ so.more;
            is = below.is ∙ (ap (λ z. below.more ++ z) so.is ∙ sym (append_assoc below.more so.more start));
            turns =
                RegionEnds out.row left below.more so.more turns last.alone (region_as header (events ++ past) (start ++ past) out.row.region.0 here below.more
                below.each);
          }
    ]

-- it was the last of its region

none_on : (region : RegionId) (rows : List Entry) → count_on region.0 rows ≡ 0 → All (λ (other : Entry). other.region ≢ region) rows
none_on region [] none = All-nil (λ (other : Entry). other.region ≢ region)
none_on region (row ∷ rows) none = elim (eqb_tells row.region.0 region.0) [
  | inl same ↦ absurd (let sum : 1 + count_on region.0 rows ≡ 0 = rw same.0 at none in omega arith)
  | inr apart ↦
      let later : 0 + count_on region.0 rows ≡ 0 = rw apart.0 at none in
      All-cons (λ (other : Entry). other.region ≢ region) row rows (λ is. apart.1 (ap (λ (z : RegionId). z.0) is)) (none_on region rows (omega arith))
]

last_alone : (header : Header) (h : ℕ) (outside : Outside) (doing : Command) (past : List Event) (k : Parts) (ids : Ids) (entry : Entry) (rest : List Entry)
    (events : List Event) → Sweeps header h outside doing past k ids (entry ∷ rest) events
    → region_entries k.chains entry.region.0 ≡ 1 → All (λ (other : Entry). other.region ≢ entry.region) rest
last_alone header h outside doing past k ids entry rest events s last =
    let row = region_row k.chains entry.region.0 s.runs.matches.core.spaces.entries.known.0 in
    let counts = s.runs.matches.core.spaces.entries.counts entry.region.0 row.0 row.1 in
    let one : count_on entry.region.0 (entry ∷ rest) ≡ 1 + count_on entry.region.0 rest = rw (itself entry.region.0) refl in
    let is = ap entries_in_row row.1 in
    none_on entry.region rest (omega arith)

pub out_still : (header : Header) (past : List Event) (rows rest : List Entry) (i : ℕ) (entry : Entry) (events : List Event) → slice_get rows i ≡ Some entry
    → rest ≡ drop (i + 1) rows → CountsOut header past (drop i rows) rest events events
out_still header past rows rest i entry events found is =
    record { row = entry; is = next_row rows i entry found ∙ ap (λ z. entry ∷ z) (sym is); ends = inl refl }

pub out_last : (header : Header) (h : ℕ) (outside : Outside) (doing : Command) (past : List Event) (k : Parts) (ids : Ids) (rows rest : List Entry) (i : ℕ)
    (entry : Entry) (events after : List Event) → slice_get rows i ≡ Some entry → rest ≡ drop (i + 1) rows
    → Sweeps header h outside doing past k ids (entry ∷ rest) events → region_entries k.chains entry.region.0 ≡ 1
    → EndsBelow header (events ++ past) (region_of header entry.region.0 (events ++ past)).top events after
    → CountsOut header (events ++ past) (drop i rows) rest events after
out_last header h outside doing past k ids rows rest i entry events after found is s last below =
    record {
      row = entry;
      is = next_row rows i entry found ∙ ap (λ z. entry ∷ z) (sym is);
      ends = inr (record { alone = last_alone header h outside doing past k ids entry rest events s last; below = below });
    }

-- all of them, behind the event by which they went, and then merges
pub ends_behind : (header : Header) (past : List Event) (first : Event) (gone were : List Entry) (start events : List Event) → start ≡ first ∷ [] → gone ≡ were
    → SameChains header (first ∷ past) past → EndsAndMerges header (start ++ past) gone start events → EndBehind header past first were events
ends_behind header past first gone were start events begun same still both =
    let its = subst (λ (z : List Event). EndsSoFar header (z ++ past) gone [] z both.mid) begun both.ends in
    let all = subst (λ (z : List Entry). EndsSoFar header (first ∷ past) z [] (first ∷ []) both.mid) same its in
    record {
      ended = all.more;
      merged = both.merges.more;
      is = both.merges.is ∙ ap (λ z. both.merges.more ++ z) all.is;
      turns = turns_as header (first ∷ past) past were [] all.more still all.turns;
      merges = both.merges.each;
    }

pub still_ended : (header : Header) (task : TaskId) (past : List Event) → SameChains header (event.TaskEnded task ∷ past) past
still_ended header task past = record { regions = λ r. refl; backings = λ o. refl }

pub still_removed : (header : Header) (task : TaskId) (address bytes : ℕ) (past : List Event) → SameChains header (event.Removed task address bytes ∷ past) past
still_removed header task address bytes past = record { regions = λ r. refl; backings = λ o. refl }
