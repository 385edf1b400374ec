-- Options that have the same fields are the same.
use Rattle.std.proofs.Common.{◌≡◌}
use Rattle.gl_args.specs.Options.{Options}

pub record SameOptions (a b : Options) : Type 0 where
  pub chip : a.chip ≡ b.chip
  pub by_name : a.by_name ≡ b.by_name
  pub strict : a.strict ≡ b.strict
  pub unquoted : a.unquoted ≡ b.unquoted
  pub numeric : a.numeric ≡ b.numeric
  pub active_low : a.active_low ≡ b.active_low
  pub bias : a.bias ≡ b.bias
  pub drive : a.drive ≡ b.drive
  pub edges : a.edges ≡ b.edges
  pub period_us : a.period_us ≡ b.period_us
  pub count : a.count ≡ b.count
  pub format : a.format ≡ b.format
  pub consumer : a.consumer ≡ b.consumer
  pub lines : a.lines ≡ b.lines

pub same_options : (a b : Options) → SameOptions a b → a ≡ b
same_options a b s = λ i. record {
  chip = s.chip i;
  by_name = s.by_name i;
  strict = s.strict i;
  unquoted = s.unquoted i;
  numeric = s.numeric i;
  active_low = s.active_low i;
  bias = s.bias i;
  drive = s.drive i;
  edges = s.edges i;
  period_us = s.period_us i;
  count = s.count i;
  format = s.format i;
  consumer = s.consumer i;
  lines = s.lines i;
}
