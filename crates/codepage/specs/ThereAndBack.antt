-- Document 02, item 1: conversion there and back is the identity on every file it accepts. Over two whole calls. Assumes nothing.
use Rattle.std.specs.Prelude.{ℕ, ◌≤◌, ◌≡◌, List, true, length, take}
use Rattle.std.proofs.Math.Option.{Option}
use Rattle.answers.specs.Answer.{is_carried_out}
use Rattle.codepage.specs.CodePage.{ebcdic_of, ascii_of}
use Rattle.codepage.specs.Conversion.{ConversionOutcome, IsConversion}

-- a call is carried out; another, the other way, gets as many bytes of what it left as it got, and an output of at least that length: it
-- too is carried out, and leaves the first one's input at the front of its output
abbrev pub Undone : (there back : ℕ → Option ℕ) → Type 0
Undone there back =
    (input out other : List ℕ) (o p : ConversionOutcome)
    → IsConversion there input out o
    → is_carried_out o.outcome.answer ≡ true
    → IsConversion back (take (length input) o.outcome.buffers) other p
    → length input ≤ length other
    → (is_carried_out p.outcome.answer ≡ true) × (take (length input) p.outcome.buffers ≡ input)

pub record ThereAndBack : Type 0 where
  pub from_ascii : Undone ebcdic_of ascii_of
  pub from_ebcdic : Undone ascii_of ebcdic_of
