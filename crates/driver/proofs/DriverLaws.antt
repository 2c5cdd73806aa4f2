-- Laws of the driver: the list call by call, and the first opening. Assumes nothing.
use mathlib.Core.Path.{◌≡◌, refl, sym, ap, ◌∙◌, subst}
use mathlib.Core.List.{List, [], ◌∷◌}
use Prim.Native.Nat.{ℕ, suc, ◌+◌, ◌-◌, ◌*◌, ◌/◌, ◌≤◌, ◌<◌}
use native.Mathlib.Omega.{arith}
use native.Mathlib.Numerals.{add-one}
use lib.IntN.{ℤ}
use lib.ListN.{length}
use Rattle.reach.specs.Reach.{Reach, reach_of}
use Rattle.reach.specs.Outcome.{outcome}
use Rattle.reach.specs.Grounds.{Verdict}
use Rattle.sheet.specs.Opening.{opening, sheet_record, OpenCameTo}
use Rattle.sheet.specs.declared.opening.OpenAnswer.{OpenAnswer}
use Rattle.sheet.proofs.OpeningLaws.{by_opening, left_by_opening}
use Rattle.tally.specs.Call.{Entry, final}
use Rattle.tally.specs.Tally.{start, run}
use Rattle.tally.specs.Holds.{Holds}
use Rattle.tally.proofs.TallyLaws.{of_definitions}
use Rattle.script.specs.Script.{free_at, call_at, entries_from, script}
use Rattle.player.specs.Plays.{Plays}
use Rattle.player.specs.declared.Played.{Played}
use Rattle.driver.specs.Replay.{flag, noted, World, world, played_one, played_from, ReplayCameTo}
use Rattle.driver.specs.declared.Replayed.{Replayed}

-- ---- the list

-- what is left to play of the calls of the words
unfoldable pub played_on : (words sheets : List ℕ) (room n j : ℕ) → World → World
played_on ws sheets room n j w = played_from w j (entries_from ws sheets room j (n - j))

module _ (ws sheets : List ℕ) (room : ℕ) where
  pub played_first : (w : World) → played_on ws sheets room (length ws / 206) 0 w ≡ played_from w 0 (script ws sheets room)
  unfolding played_on script
  played_first w = let e : length ws / 206 - 0 ≡ length ws / 206 = omega arith in rw e refl

  pub played_on_lem : (n j : ℕ) (s : Reach) (out answers : List ℕ) {r : Played} {z : List ℤ} {h : List ℕ} {q : List ℤ} {m b : List ℕ} {k : List ℤ} {out' answers' : List ℕ}
      → j < n → Plays s (free_at ws (206 * j)) (call_at ws sheets room (206 * j)) out r z h q m b k out'
      → answers' ≡ noted answers j r.refusal (flag r.transported) r.time r.place
      → played_on ws sheets room n (j + 1) (world (reach_of z h q m b k r.cell_length r.held) out' answers') ≡ played_on ws sheets room n j (world s out answers)
  unfolding played_on played_from played_one entries_from
  played_on_lem n j s out answers l o e =
      let f : n - j ≡ suc (n - (j + 1)) = omega arith in
      rw (f, e, o.refusal_is, o.transported_is, o.time_is, o.place_is, o.reach_is, o.output_is, add-one) refl

  pub played_out : (n j : ℕ) (w : World) → n ≤ j → played_on ws sheets room n j w ≡ w
  unfolding played_on played_from entries_from
  played_out n j w l = let e : n - j ≡ 0 = omega arith in rw e refl

-- the record that the calls leave
pub played_reach : (w : World) (j : ℕ) (es : List Entry) → (played_from w j es).reach ≡ final w.reach es
unfolding played_from played_one final
played_reach w j [] = refl
played_reach w j (e ∷ es) = played_reach (played_one w j e) (suc j) es

-- ---- the first opening

-- a refused one leaves what was lent
unopened : (sheet : List ℕ) (l : Reach) → ((opening sheet l).refusal ≡ 0 → ⊥) → (opening sheet l).reach ≡ l
unfolding opening
unopened sheet l =
    by_opening sheet l
    (λ (x : Verdict). ((outcome x l (sheet_record sheet l.held.outlets)).refusal ≡ 0 → ⊥) → (outcome x l (sheet_record sheet l.held.outlets)).reach ≡ l)
    (λ n p f. refl)
    (λ e f. absurd (f refl))

module _ (sheet words sheets : List ℕ) (l : Reach) (out answers : List ℕ) {r : OpenAnswer} {z : List ℤ} {h : List ℕ} {q : List ℤ} {m b : List ℕ} {c : List ℤ}
    (k : OpenCameTo (opening sheet l) r z h q m b c) where
  pub replay_stops : (r.refusal ≡ 0 → ⊥)
      → ReplayCameTo sheet words sheets l out answers (record { refusal = r.refusal; cell_length = r.cell_length; held = r.held }) z h q m b c out answers
  replay_stops n = record {
    refusal_is = k.refusal_is;
    plays = λ e. absurd (n (k.refusal_is ∙ e));
    stays = λ f. ap (λ (s : Reach). world s out answers) (left_by_opening k ∙ unopened sheet l f);
  }

  pub replay_goes : (p : Replayed) {z' : List ℤ} {h' : List ℕ} {q' : List ℤ} {m' b' : List ℕ} {c' : List ℤ} {out' answers' : List ℕ} → r.refusal ≡ 0 → p.refusal ≡ 0
      → world (reach_of z' h' q' m' b' c' p.cell_length p.held) out' answers'
      ≡ played_from (world (reach_of z h q m b c r.cell_length r.held) out answers) 0 (script words sheets (length out))
      → ReplayCameTo sheet words sheets l out answers p z' h' q' m' b' c' out' answers'
  replay_goes p e f g =
      let a = g ∙ ap (λ (s : Reach). played_from (world s out answers) 0 (script words sheets (length out))) (left_by_opening k) in
      record {
        refusal_is = f ∙ sym e ∙ k.refusal_is;
        plays = λ o. record {
          holds = subst (Holds (run (start sheet l.held.outlets) (script words sheets (length out))))
              (sym (ap (λ (w : World). w.reach) a ∙ played_reach _ 0 (script words sheets (length out))))
              (of_definitions sheet l (script words sheets (length out)) o);
          all_is = a;
        };
        stays = λ n. absurd (n (sym k.refusal_is ∙ e));
      }
