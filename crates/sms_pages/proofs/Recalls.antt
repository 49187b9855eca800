-- What a recall leaves.
use Rattle.std.proofs.Common.{◌≡◌, ◌≢◌, ◌≤◌, ◌+◌, ℕ, zero, suc, List, ◌∷◌, ◌++◌, arith, refl, ◌∙◌, Bool, true, false, if◌then◌else◌}
use Rattle.std.specs.Prelude.{slice_index, slice_set, ◌||◌}
use Rattle.std.proofs.lemmas.List.{get_or-set_other}
use Rattle.vm_model.specs.Server.{Wanting}
use Rattle.sms_pages.specs.declared.reply.Reply.{Reply}
use Rattle.sms_pages.specs.Directory.{is_recalled, any_recalled, recall, recall_kind, recalled, recalls}
use Rattle.sms_pages.specs.Desk.{awaits_with, replies_with}

-- the hosts from n on are as they were
pub recalled_above : (w : Wanting) (holds awaits : List ℕ) (n m : ℕ) → n ≤ m → slice_index (recalled w holds awaits n) m ≡ slice_index awaits m
recalled_above w holds awaits zero m le = refl
recalled_above w holds awaits (suc n) m le =
    one (is_recalled w n (slice_index holds n) (slice_index awaits n)) (recalled w holds awaits n) awaits n m (recall_kind w) (omega arith)
    (recalled_above w holds awaits n m (omega arith)) where
      one : (b : Bool) (new old : List ℕ) (n m kind : ℕ) → m ≢ n → slice_index new m ≡ slice_index old m
          → slice_index (if b then slice_set new n kind else new) m ≡ slice_index old m
      one true new old n m kind apart is = get_or-set_other new n m kind 0 apart ∙ is
      one false new old n m kind apart is = is

pub awaits_more : (w : Wanting) (holds awaits : List ℕ) (n : ℕ)
    → awaits_with w n holds (recalled w holds awaits n) (recalled w holds awaits n) ≡ recalled w holds awaits (n + 1)
awaits_more w holds awaits n =
    let next : n + 1 ≡ suc n = omega arith in
    let same : slice_index (recalled w holds awaits n) n ≡ slice_index awaits n = recalled_above w holds awaits n n (omega arith) in
    rw (next, same) refl

pub replies_more : (w : Wanting) (holds awaits : List ℕ) (n : ℕ) (old : List Reply)
    → replies_with w n holds (recalled w holds awaits n) (recalls w holds awaits n ++ old) ≡ recalls w holds awaits (n + 1) ++ old
replies_more w holds awaits n old =
    let next : n + 1 ≡ suc n = omega arith in
    let same : slice_index (recalled w holds awaits n) n ≡ slice_index awaits n = recalled_above w holds awaits n n (omega arith) in
    rw (next, same) (one (is_recalled w n (slice_index holds n) (slice_index awaits n)) (recall w n) (recalls w holds awaits n) old) where
      one : (b : Bool) (r : Reply) (rs old : List Reply) → (if b then r ∷ (rs ++ old) else rs ++ old) ≡ (if b then r ∷ rs else rs) ++ old
      one true r rs old = refl
      one false r rs old = refl

pub any_more : (w : Wanting) (holds awaits : List ℕ) (n : ℕ)
    → any_recalled w holds awaits (n + 1) ≡ (any_recalled w holds awaits n || is_recalled w n (slice_index holds n) (slice_index awaits n))
any_more w holds awaits n = let next : n + 1 ≡ suc n = omega arith in rw next refl
