pub mod FirstPrinciples
