-- Sound stages in turn are sound.
use Rattle.std.proofs.Common.{ℕ, List, Result}
use Rattle.refusals.specs.declared.refusal.Refusal.{Refusal}
use Rattle.stages.proofs.Relations.{KeepsLeft, OneAnswer, Passes, Lasts}
use Rattle.stages.specs.Files.{reading, writing}
use Rattle.stages.specs.Exact.{IsFront, Alike, SameEnd}
use Rattle.stages.specs.Stage.{Stage, in_turn, judging, giving, printing}
use Rattle.stages.proofs.FrontFacts.{front_kept, left_kept, left_writing, left_printing, grows_of, grows_turn, grows_writing, grows_printing, front_turn, front_judging, front_giving, front_reading, front_writing, front_printing}
use Rattle.stages.proofs.OnceFacts.{once_turn, once_last, alike_ends, alike_same, once_judging, once_giving, once_reading, once_writing, once_printing}
use Rattle.stages.proofs.WithinFacts.{within_turn, within_judging, within_giving, within_reading}

pub passes_turn : {A B : Type 0} (first : Stage A) (next : A → Stage B) → Passes first → ((a : A) → Passes (next a)) → Passes (in_turn first next)
passes_turn first next one two = record {
  once = once_turn Alike first next alike_same one.once (λ a. (two a).once);
  left = within_turn KeepsLeft first next left_kept one.left (λ a. (two a).left);
  grows = within_turn IsFront first next front_kept one.grows (λ a. (two a).grows);
  front = front_turn first next one.once one.front one.left (λ a. grows_of (next a) (two a).grows) (λ a. (two a).front);
}

pub lasts_turn : {A B : Type 0} (first : Stage A) (next : A → Stage B) → Passes first → ((a : A) → Lasts (next a)) → Lasts (in_turn first next)
lasts_turn first next one two = record {
  once = once_turn SameEnd first next alike_ends one.once (λ a. (two a).once);
  grows = grows_turn first next one.left (grows_of first one.grows) (λ a. (two a).grows);
  front = front_turn first next one.once one.front one.left (λ a. (two a).grows) (λ a. (two a).front);
}

pub passes_lasts : {A : Type 0} (stage : Stage A) → Passes stage → Lasts stage
passes_lasts stage one = record { once = once_last stage one.once; grows = grows_of stage one.grows; front = one.front }

pub passes_judging : {A : Type 0} (P : Result A Refusal → Type 0) → OneAnswer P → Passes (judging P)
passes_judging P one = record { once = once_judging P one; left = within_judging KeepsLeft P left_kept; grows = within_judging IsFront P front_kept; front = front_judging P }

pub passes_giving : {A : Type 0} (a : A) → Passes (giving a)
passes_giving a = record { once = once_giving a; left = within_giving KeepsLeft a left_kept; grows = within_giving IsFront a front_kept; front = front_giving a }

pub passes_reading : (name : List ℕ) (limit : ℕ) → Passes (reading name limit)
passes_reading name limit = record { once = once_reading name limit; left = within_reading KeepsLeft name limit left_kept; grows = within_reading IsFront name limit front_kept; front = front_reading name limit }

pub passes_writing : (name bytes : List ℕ) → Passes (writing name bytes)
passes_writing name bytes = record { once = once_writing name bytes; left = left_writing name bytes; grows = grows_writing name bytes; front = front_writing name bytes }

pub passes_printing : (text : List ℕ) → Passes (printing text)
passes_printing text = record { once = once_printing text; left = left_printing text; grows = grows_printing text; front = front_printing text }
