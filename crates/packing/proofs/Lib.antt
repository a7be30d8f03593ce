pub mod MarkFacts
