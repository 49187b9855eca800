-- What holds at every moment of a sustained history, and how its facts are those of one host's memory.
use Rattle.std.proofs.Common.{ℕ, suc, zero, ◌≡◌, ◌+◌, ◌<◌, ◌≤◌, List, Bool, true, false, refl, sym, ap, subst, ◌∙◌, arith, ⊎_elim, Option, Some, None}
use Rattle.std.proofs.Common.{if◌then◌else◌}
use Rattle.std.specs.Prelude.{not, nat_lt, is_some, ◌&&◌, ◌==◌}
use Rattle.std.proofs.lemmas.Bool.{cases_lt}
use Rattle.vm_model.specs.declared.event.Event.{Event}
use Rattle.vm_model.specs.declared.script.Header.{Header}
use Rattle.vm_model.specs.Named.{named}
use Rattle.vm_legal.specs.Outside.{Outside, is_file}
use Rattle.vm_model.specs.Regions.{region_of, backing_of}
use Rattle.vm_flat.proofs.Uses.{in_use}
use Rattle.vm_flat.specs.Spot.{Spot}
use Rattle.vm_flat.proofs.Allowed.{Passed}
use Rattle.vm_model.specs.Controls.{last_control, live_control}
use Rattle.vm_flat.specs.Locals.{SpotIsLocal}
use Rattle.vm_flat.specs.Places.{spot}
use Rattle.vm_flat.proofs.Sustained.{control}
use Rattle.vm_legal.specs.Walks as W
use Rattle.vm_legal.specs.Walks.{IsTop, Passes, page_on, sight}
use Rattle.vm_legal.specs.Flat.{flat_page}
use Rattle.vm_legal.specs.Accesses.{At}
use Rattle.vm_flat.proofs.Sustained.{Reach}
use Rattle.vm_flat.proofs.Deeds as D
use Rattle.vm_flat.proofs.Causes as C
use Rattle.vm_flat.proofs.File.{file_is}
use Rattle.vm_flat.proofs.Classes.{ground, deeds}
use Rattle.vm_flat.proofs.Ties.{as_row, as_link, row_is, link_is, spot_is}
use Rattle.vm_model.specs.Rows.{FoundRow, found_row}
use Rattle.vm_flat.proofs.Entries.{Entries, OwnedAt, PrivateUsed}
use Rattle.vm_flat.proofs.Filling.{Filling}
use Rattle.vm_flat.proofs.Fits.{Fits}
use Rattle.vm_flat.proofs.Housed.{Housed}
use Rattle.vm_flat.proofs.Locals.{spot_is_local}
use Rattle.vm_flat.proofs.Numbers.{NumberedAt}
use Rattle.vm_flat.proofs.Origins.{Origins}
use Rattle.vm_flat.proofs.Ports.{Worlds, Ups, UpNumbers, AskedBy, Downs, Locks}
use Rattle.vm_legal.proofs.Files.{not_file}

abbrev pub Flats : Header → Outside → List Event → Type 0
Flats header outside past = (host r i : ℕ) → D.flat (ground header outside) r i (deeds header outside host past) ≡ flat_page header outside r i past

-- a file with a live control on a host is in use on no other
abbrev pub Homes : Header → Outside → List Event → Type 0
Homes header outside past =
    (g o : ℕ) → is_file header o ≡ true → control header g o past ≡ 1 → (h : ℕ) → (h ≡ g → ⊥)
    → in_use header outside h o past ≡ false

pub record Holds (header : Header) (outside : Outside) (past : List Event) : Type 0 where
  pub worlds : Worlds header outside past
  pub flats : Flats header outside past
  pub numbered : NumberedAt header past
  pub origins : Origins header past
  pub fits : Fits header past
  pub private_used : PrivateUsed header outside past
  pub entries : Entries header outside past
  pub filling : Filling header outside past
  pub ups : Ups header outside past
  pub up_numbers : UpNumbers header outside past
  pub asked : AskedBy header outside past
  pub downs : Downs header outside past
  pub locks : Locks header outside past
  pub homes : Homes header outside past
  pub housed : Housed header outside past

clash : (b : Bool) → b ≡ false → b ≡ true → ⊥
clash b isnt is = cc

-- the entry that an address leads to
pub led : (header : Header) (outside : Outside) (task address : ℕ) (past : List Event) → Entries header outside past → (at : At header task address past)
    → FoundRow (OwnedAt header outside past at.host) address at.entry
led header outside task address past entries at = found_row (OwnedAt header outside past at.host) address _ at.entry (entries task at.host at.lives) at.found

-- the top place of a page of a region in use
pub tops : (header : Header) (outside : Outside) (host r i o p : ℕ) (past : List Event) → in_use header outside host r past ≡ true
    → IsTop (region_of header r past) i o p → i < (region_of header r past).pages → C.Tops (ground header outside) r i o p (deeds header outside host past)
tops header outside host r i o p past used top less =
    let same : D.row (ground header outside) r (deeds header outside host past) ≡ as_row (in_use header outside host r past) (region_of header r past) = row_is
    header outside host r past in
    record {
      used = ap (λ (w : D.Row). w.used) same ∙ used;
      object = ap (λ (w : D.Row). w.top) same ∙ top.object;
      page = ap (λ (w : D.Row). w.shift + i) same ∙ top.page;
      inside = subst (λ (n : ℕ). i < n) (sym (ap (λ (w : D.Row). w.pages) same)) less;
    }

pub mark_is : (header : Header) (outside : Outside) (host r : ℕ) (past : List Event) → (region_of header r past).mark ≡ false
    → (D.row (ground header outside) r (deeds header outside host past)).mark ≡ false
mark_is header outside host r past plain = ap (λ (w : D.Row). w.mark) (row_is header outside host r past) ∙ plain

-- a region over a temporary object is no declared one
pub region_later : (header : Header) (r i o p : ℕ) (past : List Event) → NumberedAt header past → IsTop (region_of header r past) i o p → named header ≤ o
    → named header ≤ r
region_later header r i o p past n top above = ⊎_elim
    (λ less. absurd (omega (arith, less, above, top.object, n.declared_top r less)))
    (λ le. le)
    (cases_lt r (named header))

pub plain_spot : (header : Header) (outside : Outside) (host o p : ℕ) (past : List Event) → named header ≤ o
    → (D.spot (ground header outside) o p (deeds header outside host past)).file ≡ false
plain_spot header outside host o p past above = file_is (ground header outside) o p (deeds header outside host past) ∙ not_file header o above

-- places

pub here_is : (header : Header) (outside : Outside) (host o p : ℕ) (b : Bool) (past : List Event) → (page_on header host o p past).here ≡ b
    → (D.spot (ground header outside) o p (deeds header outside host past)).here ≡ b
here_is header outside host o p b past is =
    ap (λ (s : Spot). s.here) (spot_is header outside host o p past) ∙ (spot_is_local header outside past host o p).here ∙ is

pub asked_is : (header : Header) (outside : Outside) (host o p : ℕ) (b : Bool) (past : List Event) → (page_on header host o p past).asked ≡ b
    → (D.spot (ground header outside) o p (deeds header outside host past)).asked ≡ b
asked_is header outside host o p b past is =
    ap (λ (s : Spot). s.asked) (spot_is header outside host o p past) ∙ (spot_is_local header outside past host o p).asked ∙ is

pub dirty_is : (header : Header) (outside : Outside) (host o p : ℕ) (b : Bool) (past : List Event) → (page_on header host o p past).dirty ≡ b
    → (D.spot (ground header outside) o p (deeds header outside host past)).dirty ≡ b
dirty_is header outside host o p b past is =
    ap (λ (s : Spot). s.dirty) (spot_is header outside host o p past) ∙ (spot_is_local header outside past host o p).dirty ∙ is

pub bytes_are : (header : Header) (outside : Outside) (host o p : ℕ) (past : List Event)
    → (D.spot (ground header outside) o p (deeds header outside host past)).bytes ≡ (page_on header host o p past).bytes
bytes_are header outside host o p past = ap (λ (s : Spot). s.bytes) (spot_is header outside host o p past) ∙ (spot_is_local header outside past host o p).bytes

-- walks

-- a pager that has a live control and may not have the page is known not to have it
absent_of : (live : Option ℕ) (number : ℕ) (below absent : Bool) → live ≡ Some number → (is_some live && not (not below && absent)) ≡ false → absent ≡ true
absent_of live number below absent lives is = by below absent (subst (λ (l : Option ℕ). (is_some l && not (not below && absent)) ≡ false) lives is)
  where
    by : (b a : Bool) → not (not b && a) ≡ false → a ≡ true
    by b true e = refl
    by true false e = absurd (let bad : true ≡ false = e in cc)
    by false false e = absurd (let bad : true ≡ false = e in cc)

passed : (header : Header) (outside : Outside) (host o p : ℕ) (past : List Event) → named header ≤ o → Passes (sight header host o p past)
    → Passed (D.spot (ground header outside) o p (deeds header outside host past))
passed header outside host o p past above passes =
    let same : D.spot (ground header outside) o p (deeds header outside host past) ≡ spot header outside host o p past = spot_is header outside host o p past in
    let i : SpotIsLocal (is_file header o) (last_control host o past) (live_control host o past) (spot header outside host o p past)
    (page_on header host o p past) = spot_is_local header outside past host o p in
    record {
      away = ap (λ (s : Spot). s.here) same ∙ i.here ∙ passes.away;
      plain = plain_spot header outside host o p past above;
      unasked = ap (λ (s : Spot). s.asked) same ∙ i.asked ∙ passes.unasked;
      without = λ lives.
          let live : live_control host o past ≡ Some (last_control host o past) = sym i.control
          ∙ ap (λ (n : ℕ). if n == 1 then Some (last_control host o past) else None) (sym (ap (λ (s : Spot). s.control) same) ∙ lives) in
          ap (λ (s : Spot). s.absent) same ∙ i.absent ∙ ap (λ (b : Bool). not b && (page_on header host o p past).absent) (not_file header o above)
          ∙ absent_of (live_control host o past) (last_control host o past) (nat_lt o (named header)) (page_on header host o p past).absent live
          passes.without;
    }

pub walks : (header : Header) (outside : Outside) (host : ℕ) (past : List Event) → NumberedAt header past → (n o p l lp : ℕ)
    → W.Walks (λ k q. sight header host k q past) (λ k. backing_of header k past) n o p l lp
    → C.Walks (ground header outside) n o p l lp (deeds header outside host past)
walks header outside host past num zero o p l lp walk = walk
walks header outside host past num (suc n) o p l lp walk =
    let same : D.link (ground header outside) o (deeds header outside host past) ≡ as_link (backing_of header o past) = link_is header outside host o past in (
      passed header outside host o p past (num.upper o walk.1) walk.0,
      ap (λ (x : D.Link). x.backed) same ∙ walk.1,
      subst (λ (x : D.Link). C.Walks (ground header outside) n x.under (x.shift + p) l lp (deeds header outside host past)) (sym same)
          (walks header outside host past num n (backing_of header o past).under ((backing_of header o past).shift + p) l lp walk.2),
    )

pub sinks : (header : Header) (outside : Outside) (host : ℕ) (past : List Event) → (n o p : ℕ)
    → ((depth u : ℕ) → W.Below (λ k. backing_of header k past) depth o u → named header ≤ u)
    → W.Sinks (λ k q. sight header host k q past) (λ k. backing_of header k past) n o p
    → C.Sinks (ground header outside) n o p (deeds header outside host past)
sinks header outside host past zero o p plain walk =
    (passed header outside host o p past (plain 0 o refl) walk.0, ap (λ (x : D.Link). x.backed) (link_is header outside host o past) ∙ walk.1)
sinks header outside host past (suc n) o p plain walk =
    let same : D.link (ground header outside) o (deeds header outside host past) ≡ as_link (backing_of header o past) = link_is header outside host o past in (
      passed header outside host o p past (plain 0 o refl) walk.0,
      ap (λ (x : D.Link). x.backed) same ∙ walk.1,
      subst (λ (x : D.Link). C.Sinks (ground header outside) n x.under (x.shift + p) (deeds header outside host past)) (sym same)
          (sinks header outside host past n (backing_of header o past).under ((backing_of header o past).shift + p)
          (λ depth u is. plain (suc depth) u (walk.1, is)) walk.2),
    )

-- chains

below : (header : Header) (outside : Outside) (host : ℕ) (past : List Event) (n o u : ℕ)
    → C.Below (λ k. D.link (ground header outside) k (deeds header outside host past)) n o u → W.Below (λ k. backing_of header k past) n o u
below header outside host past zero o u is = is
below header outside host past (suc n) o u is =
    let same : D.link (ground header outside) o (deeds header outside host past) ≡ as_link (backing_of header o past) = link_is header outside host o past in (
      sym (ap (λ (x : D.Link). x.backed) same) ∙ is.0,
      below header outside host past n (backing_of header o past).under u (subst (λ (x : D.Link). C.Below
          (λ k. D.link (ground header outside) k (deeds header outside host past)) n x.under u) same is.1),
    )

pub reach : (header : Header) (outside : Outside) (host o : ℕ) (past : List Event) → C.Reach (ground header outside) o (deeds header outside host past)
    → Reach header outside host o past
reach header outside host o past is =
    let same : D.row (ground header outside) is.0 (deeds header outside host past) ≡ as_row (in_use header outside host is.0 past)
    (region_of header is.0 past) = row_is header outside host is.0 past in (
      is.0,
      is.1,
      sym (ap (λ (w : D.Row). w.used) same) ∙ is.2,
      below header outside host past is.1 (region_of header is.0 past).top o (subst
          (λ (w : D.Row). C.Below (λ k. D.link (ground header outside) k (deeds header outside host past)) is.1 w.top o) same is.3),
    )
